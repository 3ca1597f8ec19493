use Rattle.my_pool_core.proofs.Asked.Wakes.{woken-are, waiting-are, wakes-waiting}
use Rattle.my_pool_core.proofs.Oldest.{waits-again}
use Rattle.my_pool_core.proofs.laws.woken_are.Goals as goal

pub returns-clause-woken : goal.returns-clause-woken
returns-clause-woken c = woken-are

pub returns-clause-waiting : goal.returns-clause-waiting
returns-clause-waiting c = waiting-are

pub returns-clause-only : goal.returns-clause-only
returns-clause-only c = wakes-waiting

pub returns-clause-again : goal.returns-clause-again
returns-clause-again c = waits-again
