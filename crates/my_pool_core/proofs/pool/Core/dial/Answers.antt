use Rattle.std.proofs.Common.{◌≡◌, ◌<◌, true, false, sym, ap, ◌∙◌, subst, arith}
use Rattle.my_pool_core.specs.contracts.pool.Core.{the_view}
use Rattle.my_pool_core.proofs.Keeping.{dial-room, dial-number, dial-below, raised, kept-dialed}
use Rattle.my_pool_core.specs.Events.{may_poll, dialed}
use Rattle.std.proofs.Common.{length}
use Rattle.my_pool_core.proofs.pool.Core.dial.Goals as goal

pub add-number-requires-clause-memory : goal.add-number-requires-clause-memory
add-number-requires-clause-memory g c =
    let may = subst (λ s. may_poll c.args.age s ≡ true) (sym c.self.view_is) c.requires.live in
    let open_ = subst (λ s. s.closed ≡ false) (sym c.self.view_is) c.requires.open_ in
    dial-number c.args.age (the_view c.self.inside) c.self.inside.connections.coming c.self.invariant.sound c.self.invariant.expected may open_

pub add-number-requires-clause-room : goal.add-number-requires-clause-room
add-number-requires-clause-room g c =
    let may = subst (λ s. may_poll c.args.age s ≡ true) (sym c.self.view_is) c.requires.live in
    let open_ = subst (λ s. s.closed ≡ false) (sym c.self.view_is) c.requires.open_ in
    omega (arith, dial-room c.args.age (the_view c.self.inside) c.self.invariant.sound may open_, c.self.invariant.reserved)

pub overflow_sub-self : goal.overflow_sub-self
overflow_sub-self g c =
    let may = subst (λ s. may_poll c.args.age s ≡ true) (sym c.self.view_is) c.requires.live in
    let open_ = subst (λ s. s.closed ≡ false) (sym c.self.view_is) c.requires.open_ in
    dial-room c.args.age (the_view c.self.inside) c.self.invariant.sound may open_

pub invariant_of-self : goal.invariant_of-self
invariant_of-self g c =
    let may = subst (λ s. may_poll c.args.age s ≡ true) (sym c.self.view_is) c.requires.live in
    let open_ = subst (λ s. s.closed ≡ false) (sym c.self.view_is) c.requires.open_ in
    let few : length c.self.inside.connections.list < c.self.inside.limits.max = subst (λ s. length s.connections < s.limits.max) (sym c.self.view_is) c.requires.few in
    let next = sym (raised c.self.inside.connections.next (dial-below c.args.age (the_view c.self.inside) c.self.invariant.sound may open_)) in
    kept-dialed c.args.age (the_view c.self.inside) _ _ _ _ _ c.self.invariant may open_ few
    (cc (c.add-number.ensures.number, ap (λ x. x.list) c.add-number.ensures.state, ap (λ x. x.next) c.add-number.ensures.state ∙ next))
    (omega (arith, ap (λ x. x.room) c.add-number.ensures.state)) (ap (λ x. x.coming) c.add-number.ensures.state)

pub returns-clause-state : goal.returns-clause-state
returns-clause-state g c =
    let may = subst (λ s. may_poll c.args.age s ≡ true) (sym c.self.view_is) c.requires.live in
    let open_ = subst (λ s. s.closed ≡ false) (sym c.self.view_is) c.requires.open_ in
    let next = sym (raised c.self.inside.connections.next (dial-below c.args.age (the_view c.self.inside) c.self.invariant.sound may open_)) in
    (cc (c.add-number.ensures.number, ap (λ x. x.list) c.add-number.ensures.state, ap (λ x. x.next) c.add-number.ensures.state ∙ next))
    ∙ ap (λ s. (dialed c.args.age s).state) c.self.view_is
