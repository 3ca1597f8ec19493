use Rattle.my_pool_core.proofs.Placed.Verdicts.{kept-quiet, reset-quiet, done-kept, done-cleans, done-resets}
use Rattle.my_pool_core.proofs.laws.verdicts_tell.Goals as goal

pub returns-clause-kept : goal.returns-clause-kept
returns-clause-kept c = kept-quiet

pub returns-clause-reset : goal.returns-clause-reset
returns-clause-reset c = reset-quiet

pub returns-clause-ended : goal.returns-clause-ended
returns-clause-ended c = done-kept

pub returns-clause-cleans : goal.returns-clause-cleans
returns-clause-cleans c = done-cleans

pub returns-clause-resets : goal.returns-clause-resets
returns-clause-resets c = done-resets
