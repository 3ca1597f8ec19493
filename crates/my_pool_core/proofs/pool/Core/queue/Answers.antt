use Rattle.std.proofs.Common.{◌≡◌, true, false, sym, subst, arith, refl}
use Rattle.my_pool_core.specs.contracts.pool.Core.{the_view}
use Rattle.my_pool_core.proofs.Keeping.{kept-ended, kept-waits}
use Rattle.my_pool_core.specs.Events.{may_poll}
use Rattle.my_pool_core.proofs.pool.Core.queue.Goals as goal

pub invariant_of-self : goal.invariant_of-self
invariant_of-self g c =
    let may = subst (λ s. may_poll c.args.age s ≡ true) (sym c.self.view_is) c.requires.live in
    kept-ended c.args.age (the_view c.self.inside) _ _ _ _ _ c.self.invariant may (cc) (omega arith) refl

pub invariant_of-self-2 : goal.invariant_of-self-2
invariant_of-self-2 g c =
    let may = subst (λ s. may_poll c.args.age s ≡ true) (sym c.self.view_is) c.requires.live in
    let open_ = subst (λ s. s.closed ≡ false) (sym c.self.view_is) c.requires.open_ in
    kept-waits c.args.age (the_view c.self.inside) _ _ _ _ _ c.self.invariant may open_ (cc) (omega arith) refl
