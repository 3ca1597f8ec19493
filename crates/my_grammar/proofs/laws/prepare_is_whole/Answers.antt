-- A reply that is over is whole.
use Rattle.my_grammar.proofs.Sound.WholeReplies.{prepare_is_whole}
use Rattle.my_grammar.proofs.laws.prepare_is_whole.Goals as goal

pub returns : goal.returns
returns c = record { whole = λ terms command t origin_is fits over. prepare_is_whole terms command t origin_is fits over }
