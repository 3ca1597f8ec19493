use Rattle.my_pool_core.proofs.Placed.Homes.{homes-move}
use Rattle.my_pool_core.proofs.laws.homes_move.Goals as goal

pub returns : goal.returns
returns c = homes-move
