use Rattle.std.proofs.Common.{◌≡◌, true, refl, sym, subst, arith, ap}
use Rattle.my_pool_core.specs.contracts.pool.Core.{the_view}
use Rattle.my_pool_core.proofs.Keeping.{movable-there, kept-moved, decide-moves}
use Rattle.my_pool_core.specs.Events.{may_decide, outlived, being_reset}
use Rattle.my_pool_parts.specs.declared.connection.Place.TheVariants.{Closing, Resetting}
use Rattle.my_pool_core.proofs.pool.Core.decide_noting.Goals as goal

pub move_to-requires : goal.move_to-requires
move_to-requires g c =
    let may = subst (λ s. may_decide c.args.conn s ≡ true) (sym c.self-2.view_is) c.requires in
    let moves = decide-moves c.args.conn (the_view c.self-2.inside) may in
    movable-there c.args.conn (the_view c.self-2.inside) moves

pub invariant_of-self-then-facts-3 : goal.invariant_of-self-then-facts-3
invariant_of-self-then-facts-3 g c =
    let may = subst (λ s. may_decide c.args.conn s ≡ true) (sym c.self-2.view_is) c.requires in
    let moves = decide-moves c.args.conn (the_view c.self-2.inside) may in
    kept-moved c.args.conn Closing (outlived c.self-2.inside.counts) (the_view c.self-2.inside) _ _ _ _ _ c.self-2.invariant moves (refl, refl) refl (cc (ap (λ x. x.list) c.move_to.ensures, ap (λ x. x.next) c.move_to.ensures)) (omega (arith, ap (λ x. x.room) c.move_to.ensures)) (ap (λ x. x.coming) c.move_to.ensures)

pub move_to-requires-then-facts-4 : goal.move_to-requires-then-facts-4
move_to-requires-then-facts-4 g c =
    let may = subst (λ s. may_decide c.args.conn s ≡ true) (sym c.self-2.view_is) c.requires in
    let moves = decide-moves c.args.conn (the_view c.self-2.inside) may in
    movable-there c.args.conn (the_view c.self-2.inside) moves

pub invariant_of-self-then-facts-4 : goal.invariant_of-self-then-facts-4
invariant_of-self-then-facts-4 g c =
    let may = subst (λ s. may_decide c.args.conn s ≡ true) (sym c.self-2.view_is) c.requires in
    let moves = decide-moves c.args.conn (the_view c.self-2.inside) may in
    kept-moved c.args.conn Resetting (being_reset c.self-2.inside.counts) (the_view c.self-2.inside) _ _ _ _ _ c.self-2.invariant moves (refl, refl) refl (cc (ap (λ x. x.list) c.move_to-then-facts-4.ensures, ap (λ x. x.next) c.move_to-then-facts-4.ensures)) (omega (arith, ap (λ x. x.room) c.move_to-then-facts-4.ensures)) (ap (λ x. x.coming) c.move_to-then-facts-4.ensures)
