use Rattle.std.proofs.Common.{refl}
use Rattle.my_steps.proofs.connecting.settle.Goals as goal

pub returns-in-Pending-clause-settles : goal.returns-in-Pending-clause-settles
returns-in-Pending-clause-settles g c = rw c.in-Pending.is (refl, refl)

pub returns-in-Made-clause-settles : goal.returns-in-Made-clause-settles
returns-in-Made-clause-settles g c = rw c.in-Made.is (refl, c.greeted-outcome.ensures)

pub returns-in-Failed-clause-settles : goal.returns-in-Failed-clause-settles
returns-in-Failed-clause-settles g c = rw c.in-Failed.is c.unmade.ensures.unmade
