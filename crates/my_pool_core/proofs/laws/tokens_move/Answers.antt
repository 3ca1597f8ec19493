use Rattle.my_pool_core.proofs.Asked.Tokens.{tokens-move}
use Rattle.my_pool_core.proofs.laws.tokens_move.Goals as goal

pub returns : goal.returns
returns c = tokens-move
