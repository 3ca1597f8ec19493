use Rattle.std.proofs.Common.{arith, refl}
use Rattle.my_pool_core.specs.contracts.pool.Core.{the_view}
use Rattle.my_pool_core.proofs.Keeping.{kept-close}
use Rattle.my_pool_core.proofs.pool.Core.close_noting.Goals as goal

pub invariant_of-self : goal.invariant_of-self
invariant_of-self g c = kept-close (the_view c.self.inside) _ _ _ _ _ c.self.invariant (cc) (omega arith) refl
