use Rattle.std.proofs.Common.{◌≡◌, true, refl, sym, ap, subst, arith}
use Rattle.my_pool_core.specs.contracts.pool.Core.{the_view}
use Rattle.my_pool_core.proofs.Keeping.{movable-there, kept-moved, kept-rested}
use Rattle.my_pool_core.specs.Events.{may_move, superfluous}
use Rattle.my_pool_parts.specs.declared.connection.Place.TheVariants.{Closing}
use Rattle.my_pool_core.proofs.pool.Core.keep.Goals as goal

pub move_to-requires : goal.move_to-requires
move_to-requires g c =
    let may = subst (λ s. may_move c.args.conn s ≡ true) (sym c.self.view_is) c.requires in
    movable-there c.args.conn (the_view c.self.inside) may

pub invariant_of-self : goal.invariant_of-self
invariant_of-self g c =
    let may = subst (λ s. may_move c.args.conn s ≡ true) (sym c.self.view_is) c.requires in
    kept-moved c.args.conn Closing (superfluous c.self.inside.counts) (the_view c.self.inside) _ _ _ _ _ c.self.invariant may (refl, refl) refl (cc (ap (λ x. x.list) c.move_to.ensures, ap (λ x. x.next) c.move_to.ensures)) (omega (arith, ap (λ x. x.room) c.move_to.ensures)) (ap (λ x. x.coming) c.move_to.ensures)

pub move_to-requires-2 : goal.move_to-requires-2
move_to-requires-2 g c =
    let may = subst (λ s. may_move c.args.conn s ≡ true) (sym c.self.view_is) c.requires in
    movable-there c.args.conn (the_view c.self.inside) may

pub invariant_of-self-2 : goal.invariant_of-self-2
invariant_of-self-2 g c =
    let may = subst (λ s. may_move c.args.conn s ≡ true) (sym c.self.view_is) c.requires in
    kept-rested c.args.conn c.args.facts c.args.now (the_view c.self.inside) _ _ _ _ _ c.self.invariant may (omega (arith, c.if-self-count_idle.false, c.count_idle.ensures)) (cc (ap (λ x. x.list) c.move_to-2.ensures, ap (λ x. x.next) c.move_to-2.ensures)) (omega (arith, ap (λ x. x.room) c.move_to-2.ensures)) (ap (λ x. x.coming) c.move_to-2.ensures)
