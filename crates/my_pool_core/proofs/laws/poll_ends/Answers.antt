use Rattle.my_pool_core.proofs.Placed.Counts.{take-idle, failed-idle}
use Rattle.my_pool_core.proofs.laws.poll_ends.Goals as goal

pub returns-clause-taken : goal.returns-clause-taken
returns-clause-taken c = take-idle

pub returns-clause-failed : goal.returns-clause-failed
returns-clause-failed c = failed-idle
