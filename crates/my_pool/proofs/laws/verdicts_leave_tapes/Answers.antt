use Rattle.std.proofs.Common.{ap, refl}
use Rattle.my_pool_store.specs.Shelves.{numbered}
use Rattle.my_pool.proofs.laws.verdicts_leave_tapes.Goals as goal

pub returns-clause-goes : goal.returns-clause-goes
returns-clause-goes g c = λ n conn t e. ap (numbered n) e

pub returns-clause-untaped : goal.returns-clause-untaped
returns-clause-untaped g c = λ n conn e. ap (numbered n) e

pub returns-clause-keeps : goal.returns-clause-keeps
returns-clause-keeps g c = λ n conn. refl

pub returns-clause-cleans : goal.returns-clause-cleans
returns-clause-cleans g c = λ n conn. refl

pub returns-clause-resets : goal.returns-clause-resets
returns-clause-resets g c = λ n conn. refl

pub returns-clause-closes : goal.returns-clause-closes
returns-clause-closes g c = λ n conn. refl
