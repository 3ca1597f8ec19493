use Rattle.std.proofs.Common.{◌≡◌, ◌<◌, ◌^◌, true, length, sym, ap, ◌∙◌, subst, arith, inl, inr, refl}
use Rattle.my_pool_core.specs.contracts.pool.Core.{the_view}
use Rattle.my_pool_core.proofs.Keeping.{kept-cancel}
use Rattle.my_pool_core.specs.Events.{may_cancel}
use Rattle.my_pool_parts.specs.declared.request.Standing.TheVariants.{Asks, Waits, Woken, Dials, Checks}
use Rattle.my_pool_parts.proofs.Queue.Costs.{ended-short}
use Rattle.my_pool_core.proofs.pool.Core.cancel_noting.Goals as goal

pub invariant_of-self : goal.invariant_of-self
invariant_of-self g c =
    let may = subst (λ s. may_cancel c.args.age s ≡ true) (sym c.self.view_is) c.requires in
    let found = sym c.find.ensures ∙ c.in-Some.is in
    elim c.in-Asks.is [ inl is ↦ kept-cancel c.args.age (the_view c.self.inside) _ _ _ _ _ c.in-Some.request Asks c.self.invariant may found is (cc) (omega arith) refl | inr is ↦ kept-cancel c.args.age (the_view c.self.inside) _ _ _ _ _ c.in-Some.request Waits c.self.invariant may found is (cc) (omega arith) refl ]

pub invariant_of-self-in-Woken-1 : goal.invariant_of-self-in-Woken-1
invariant_of-self-in-Woken-1 g c =
    let may = subst (λ s. may_cancel c.args.age s ≡ true) (sym c.self.view_is) c.requires in
    let found = sym c.find.ensures ∙ c.in-Some.is in
    kept-cancel c.args.age (the_view c.self.inside) _ _ _ _ _ c.in-Some.request Woken c.self.invariant may found c.in-Woken.is (cc) (omega arith) refl

pub invariant_of-self-in-Dials : goal.invariant_of-self-in-Dials
invariant_of-self-in-Dials g c =
    let may = subst (λ s. may_cancel c.args.age s ≡ true) (sym c.self.view_is) c.requires in
    let found = sym c.find.ensures ∙ c.in-Some.is in
    elim c.in-Dials.is [ inl is ↦ kept-cancel c.args.age (the_view c.self.inside) _ _ _ _ _ c.in-Some.request (Dials c.in-Dials.number) c.self.invariant may found is (cc (ap (λ x. x.list) c.take_out.ensures.state, ap (λ x. x.next) c.take_out.ensures.state)) (omega (arith, ap (λ x. x.room) c.take_out.ensures.state)) (ap (λ x. x.coming) c.take_out.ensures.state) | inr is ↦ kept-cancel c.args.age (the_view c.self.inside) _ _ _ _ _ c.in-Some.request (Checks c.in-Dials.number) c.self.invariant may found is (cc (ap (λ x. x.list) c.take_out.ensures.state, ap (λ x. x.next) c.take_out.ensures.state)) (omega (arith, ap (λ x. x.room) c.take_out.ensures.state)) (ap (λ x. x.coming) c.take_out.ensures.state) ]

pub returns-in-Woken-clause-cost : goal.returns-in-Woken-clause-cost
returns-in-Woken-clause-cost g c = λ d lt.
    let before : length (the_view c.self.inside).requests < 2 ^ d = omega (arith, ap (λ s. length s.requests) c.self.view_is, lt) in
    let following : length c.end.new.self < 2 ^ d = omega (arith, ap length c.end.ensures.requests, ended-short c.args.age (the_view c.self.inside).requests, before) in
    omega (arith, c.end.ensures.cost d before, c.wake.ensures.cost d following)

pub returns-in-Dials-clause-cost : goal.returns-in-Dials-clause-cost
returns-in-Dials-clause-cost g c = λ d lt.
    let before : length (the_view c.self.inside).requests < 2 ^ d = omega (arith, ap (λ s. length s.requests) c.self.view_is, lt) in
    let following : length c.end.new.self < 2 ^ d = omega (arith, ap length c.end.ensures.requests, ended-short c.args.age (the_view c.self.inside).requests, before) in
    omega (arith, c.end.ensures.cost d before, c.wake-in-Dials.ensures.cost d following)
