use Rattle.my_pool_core.proofs.Always.{sound-step, covered-step}
use Rattle.my_pool_core.proofs.laws.kept_by_each_event.Goals as goal

pub returns-clause-sound : goal.returns-clause-sound
returns-clause-sound c = sound-step

pub returns-clause-covered : goal.returns-clause-covered
returns-clause-covered c = covered-step
