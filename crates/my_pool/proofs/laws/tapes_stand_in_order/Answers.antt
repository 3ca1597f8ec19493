use Rattle.std.proofs.Common.{◌≡◌, [], ◌∷◌, arith, refl}
use Rattle.my_pool_store.specs.Shelves.{entry}
use Rattle.my_pool.proofs.Burying.{same-number}
use Rattle.my_pool.proofs.laws.tapes_stand_in_order.Goals as goal

pub returns-clause-right : goal.returns-clause-right
returns-clause-right c = λ t u. refl

pub returns-clause-none : goal.returns-clause-none
returns-clause-none c = λ t. refl

pub returns-clause-lost : goal.returns-clause-lost
returns-clause-lost c = λ t u e. cc

pub returns-clause-twice : goal.returns-clause-twice
returns-clause-twice c = λ t u e. cc

pub returns-clause-before : goal.returns-clause-before
returns-clause-before c = λ t u e. absurd (omega (arith, same-number 1 2 t u (entry 2 u ∷ []) (entry 1 t ∷ []) e))

pub returns-clause-other : goal.returns-clause-other
returns-clause-other c = λ t u e. let rest : entry 2 u ∷ [] ≡ entry 3 u ∷ [] = cc in absurd (omega (arith, same-number 2 3 u u [] [] rest))
