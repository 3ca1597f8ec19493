use Rattle.std.proofs.Common.{◌≡◌, true, false, sym, subst, arith, ap}
use Rattle.my_pool_core.specs.contracts.pool.Core.{the_view}
use Rattle.my_pool_core.proofs.Keeping.{kept-taken, taken-as}
use Rattle.my_pool_core.specs.Events.{may_poll}
use Rattle.std.specs.Prelude.{find, IfSome}
use Rattle.my_pool_parts.specs.Lists.{found_is}
use Rattle.my_pool_parts.specs.Connections.{has_number, is_idle}
use Rattle.my_pool_parts.proofs.Finding.{found-any}
use Rattle.my_pool_core.proofs.pool.Core.seek.Goals as goal

pub move_to-requires : goal.move_to-requires
move_to-requires g c =
    let idle = subst (λ s. found_is is_idle (find (has_number c.in-Some.number) s.connections) ≡ true) (sym c.self.view_is) (subst (λ o. IfSome o (λ n. found_is is_idle (find (has_number n) c.args.self.now.connections) ≡ true)) c.in-Some.is c.requires.idle) in
    found-any is_idle (has_number c.in-Some.number) c.self.inside.connections.list idle

pub invariant_of-self : goal.invariant_of-self
invariant_of-self g c =
    let may = subst (λ s. may_poll c.args.age s ≡ true) (sym c.self.view_is) c.requires.live in
    let open_ = subst (λ s. s.closed ≡ false) (sym c.self.view_is) c.requires.open_ in
    let idle = subst (λ s. found_is is_idle (find (has_number c.in-Some.number) s.connections) ≡ true) (sym c.self.view_is) (subst (λ o. IfSome o (λ n. found_is is_idle (find (has_number n) c.args.self.now.connections) ≡ true)) c.in-Some.is c.requires.idle) in
    kept-taken c.args.age c.in-Some.number (the_view c.self.inside) _ _ _ _ _ c.self.invariant may open_ idle (cc (ap (λ x. x.list) c.move_to.ensures, ap (λ x. x.next) c.move_to.ensures)) (omega (arith, ap (λ x. x.room) c.move_to.ensures)) (ap (λ x. x.coming) c.move_to.ensures)

pub returns-in-Some-clause-state : goal.returns-in-Some-clause-state
returns-in-Some-clause-state g c =
    taken-as c.args.age c.in-Some.number (the_view c.self.inside) _ _ _ c.in-Some.is (cc (ap (λ x. x.list) c.move_to.ensures, ap (λ x. x.next) c.move_to.ensures)) c.self.view_is
