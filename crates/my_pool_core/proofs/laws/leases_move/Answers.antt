use Rattle.my_pool_core.proofs.Placed.Homes.{leases-move}
use Rattle.my_pool_core.proofs.laws.leases_move.Goals as goal

pub returns : goal.returns
returns c = leases-move
