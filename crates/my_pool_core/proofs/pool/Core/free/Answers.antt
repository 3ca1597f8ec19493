use Rattle.std.proofs.Common.{◌≡◌, true, sym, subst, arith, ap}
use Rattle.my_pool_core.specs.contracts.pool.Core.{the_view}
use Rattle.my_pool_core.proofs.Keeping.{kept-freed}
use Rattle.my_pool_core.specs.Events.{may_move}
use Rattle.my_pool_core.proofs.pool.Core.free.Goals as goal

pub invariant_of-self : goal.invariant_of-self
invariant_of-self g c =
    let may = subst (λ s. may_move c.args.conn s ≡ true) (sym c.self.view_is) c.requires in
    kept-freed c.args.conn (the_view c.self.inside) _ _ _ _ _ c.self.invariant may (cc (ap (λ x. x.list) c.take_out.ensures.state, ap (λ x. x.next) c.take_out.ensures.state)) (omega (arith, ap (λ x. x.room) c.take_out.ensures.state)) (ap (λ x. x.coming) c.take_out.ensures.state)
