use Rattle.my_pool_core.proofs.Placed.Counts.{room-stays, room-grows}
use Rattle.my_pool_core.proofs.laws.room_stays.Goals as goal

pub returns-clause-same : goal.returns-clause-same
returns-clause-same c = room-stays

pub returns-clause-grows : goal.returns-clause-grows
returns-clause-grows c = room-grows
