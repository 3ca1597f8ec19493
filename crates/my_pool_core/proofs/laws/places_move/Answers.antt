use Rattle.my_pool_core.proofs.Placed.Moves.{places-move}
use Rattle.my_pool_core.proofs.laws.places_move.Goals as goal

pub returns : goal.returns
returns c = places-move
