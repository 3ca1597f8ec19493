use Rattle.my_pool_core.proofs.Refuted.{handed-on, lost, let-go, leaked}
use Rattle.my_pool_core.proofs.laws.given_up_leaves_nothing.Goals as goal

pub returns-clause-handed_on : goal.returns-clause-handed_on
returns-clause-handed_on c = handed-on

pub returns-clause-lost : goal.returns-clause-lost
returns-clause-lost c = lost

pub returns-clause-let_go : goal.returns-clause-let_go
returns-clause-let_go c = let-go

pub returns-clause-leaked : goal.returns-clause-leaked
returns-clause-leaked c = leaked
