use Rattle.my_pool_store.proofs.Waking.{called-waiting, closed-waiting}
use Rattle.my_pool_store.proofs.laws.those_that_wait_keep_wakers.Goals as goal

pub returns-clause-at : goal.returns-clause-at
returns-clause-at c = called-waiting

pub returns-clause-closed : goal.returns-clause-closed
returns-clause-closed c = closed-waiting
