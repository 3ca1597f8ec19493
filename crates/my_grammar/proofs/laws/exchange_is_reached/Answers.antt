-- Reading comes to the exchange.
use Rattle.my_grammar.proofs.Sound.Reaching.{reaches}
use Rattle.my_grammar.proofs.laws.exchange_is_reached.Goals as goal

pub returns : goal.returns
returns c = λ t rest fits. (reaches t fits).reaches rest
