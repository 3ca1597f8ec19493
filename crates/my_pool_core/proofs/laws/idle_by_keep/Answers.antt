use Rattle.my_pool_core.proofs.Placed.Staying.{idle-by-keep, takes-latest}
use Rattle.my_pool_core.proofs.laws.idle_by_keep.Goals as goal

pub returns-clause-idle : goal.returns-clause-idle
returns-clause-idle c = idle-by-keep

pub returns-clause-taken : goal.returns-clause-taken
returns-clause-taken c = takes-latest
