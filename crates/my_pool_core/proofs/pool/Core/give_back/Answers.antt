use Rattle.std.proofs.Common.{◌≡◌, true, sym, subst, ap, arith}
use Rattle.my_pool_core.specs.contracts.pool.Core.{the_view}
use Rattle.my_pool_core.proofs.Keeping.{kept-give-back}
use Rattle.my_pool_core.specs.Events.{may_give_back}
use Rattle.my_pool_parts.proofs.Finding.{found-any}
use Rattle.my_pool_parts.specs.Connections.{has_number, is_leased}
use Rattle.my_pool_core.proofs.pool.Core.give_back.Goals as goal

pub move_to-requires : goal.move_to-requires
move_to-requires c =
    let may = subst (λ s. may_give_back c.args.conn s ≡ true) (sym c.self.view_is) c.requires in
    found-any is_leased (has_number c.args.conn) c.self.inside.connections.list may

pub invariant_of-self : goal.invariant_of-self
invariant_of-self c =
    let may = subst (λ s. may_give_back c.args.conn s ≡ true) (sym c.self.view_is) c.requires in
    kept-give-back c.args.conn (the_view c.self.inside) _ _ _ _ _ c.self.invariant may (cc (ap (λ x. x.list) c.move_to.ensures, ap (λ x. x.next) c.move_to.ensures)) (omega (arith, ap (λ x. x.room) c.move_to.ensures)) (ap (λ x. x.coming) c.move_to.ensures)
