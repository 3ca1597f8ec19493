use Rattle.my_pool_core.specs.Events.{new_pool}
use Rattle.my_pool_core.proofs.Always.{always, sound-new, covered-new}
use Rattle.my_pool_core.proofs.laws.kept_by_all_events.Goals as goal

pub returns-clause-sound : goal.returns-clause-sound
returns-clause-sound c = λ limits first events le all. (always (new_pool limits first) events (sound-new limits first le) (covered-new limits first) all).0

pub returns-clause-covered : goal.returns-clause-covered
returns-clause-covered c = λ limits first events le all. (always (new_pool limits first) events (sound-new limits first le) (covered-new limits first) all).1
