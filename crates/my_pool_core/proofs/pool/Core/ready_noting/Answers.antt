use Rattle.std.proofs.Common.{◌≡◌, true, sym, subst, arith, ap}
use Rattle.my_pool_core.specs.contracts.pool.Core.{the_view}
use Rattle.my_pool_core.proofs.Keeping.{held-there, kept-ready}
use Rattle.my_pool_core.specs.Events.{may_settle}
use Rattle.my_pool_core.proofs.pool.Core.ready_noting.Goals as goal

pub move_to-requires : goal.move_to-requires
move_to-requires g c =
    let may = subst (λ s. may_settle c.args.age c.args.conn s ≡ true) (sym c.self.view_is) c.requires in
    held-there c.args.age c.args.conn (the_view c.self.inside) c.self.invariant.sound may

pub invariant_of-self : goal.invariant_of-self
invariant_of-self g c =
    let may = subst (λ s. may_settle c.args.age c.args.conn s ≡ true) (sym c.self.view_is) c.requires in
    kept-ready c.args.age c.args.conn (the_view c.self.inside) _ _ _ _ _ c.self.invariant may (cc (ap (λ x. x.list) c.move_to.ensures, ap (λ x. x.next) c.move_to.ensures)) (omega (arith, ap (λ x. x.room) c.move_to.ensures)) (ap (λ x. x.coming) c.move_to.ensures)
