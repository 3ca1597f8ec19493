-- An exchange that is over is cut off.
use Rattle.my_grammar.proofs.Sound.{over_is_cut}
use Rattle.my_grammar.proofs.laws.whole_exchange_is_cut.Goals as goal

pub returns : goal.returns
returns c = λ t ts rest fits over. over_is_cut t ts rest fits over
