use Rattle.std.proofs.Common.{◌≡◌, true, refl, sym, subst, arith, ap}
use Rattle.my_pool_core.specs.contracts.pool.Core.{the_view}
use Rattle.my_pool_core.proofs.Keeping.{movable-there, kept-moved, done-moves}
use Rattle.my_pool_core.specs.Events.{may_done, superfluous}
use Rattle.my_pool_parts.specs.declared.connection.Place.TheVariants.{Closing}
use Rattle.my_pool_core.proofs.pool.Core.done_noting.Goals as goal

pub move_to-requires : goal.move_to-requires
move_to-requires g c =
    let may = subst (λ s. may_done c.args.conn c.args.ok s ≡ true) (sym c.self.view_is) c.requires in
    let moves = done-moves c.args.conn c.args.ok (the_view c.self.inside) may in
    movable-there c.args.conn (the_view c.self.inside) moves

pub invariant_of-self : goal.invariant_of-self
invariant_of-self g c =
    let may = subst (λ s. may_done c.args.conn c.args.ok s ≡ true) (sym c.self.view_is) c.requires in
    let moves = done-moves c.args.conn c.args.ok (the_view c.self.inside) may in
    kept-moved c.args.conn Closing (superfluous c.self.inside.counts) (the_view c.self.inside) _ _ _ _ _ c.self.invariant moves (refl, refl) refl (cc (ap (λ x. x.list) c.move_to.ensures, ap (λ x. x.next) c.move_to.ensures)) (omega (arith, ap (λ x. x.room) c.move_to.ensures)) (ap (λ x. x.coming) c.move_to.ensures)
