use Rattle.std.proofs.Common.{◌≡◌, true, sym, subst, arith, ap, refl, ◌∙◌}
use Rattle.my_pool_core.specs.contracts.pool.Core.{the_view}
use Rattle.my_pool_core.proofs.Keeping.{kept-ended, kept-retired, retired-may, polled-as}
use Rattle.my_pool_core.specs.Events.{may_poll, poll_request}
use Rattle.my_pool_core.proofs.pool.Core.poll_request_noting.Goals as goal

pub invariant_of-self : goal.invariant_of-self
invariant_of-self g c =
    let may = subst (λ s. may_poll c.args.age s ≡ true) (sym c.self.view_is) c.requires in
    kept-ended c.args.age (the_view c.self.inside) _ _ _ _ _ c.self.invariant may (cc) (omega arith) refl

pub invariant_of-self-2 : goal.invariant_of-self-2
invariant_of-self-2 g c = kept-retired c.args.now (the_view c.self.inside) _ _ _ _ _ c.self.invariant (cc (ap (λ x. x.list) c.retire-latest.ensures.state, ap (λ x. x.next) c.retire-latest.ensures.state)) (omega (arith, ap (λ x. x.room) c.retire-latest.ensures.state)) (ap (λ x. x.coming) c.retire-latest.ensures.state)

pub seek-requires-clause-idle : goal.seek-requires-clause-idle
seek-requires-clause-idle g c = retired-may c.args.now (the_view c.self.inside) c.retire-latest.result c.retire-latest.new.self.list c.self.invariant.sound c.retire-latest.ensures.latest (ap (λ x. x.list) c.retire-latest.ensures.state)

pub returns-clause-state : goal.returns-clause-state
returns-clause-state g c =
    let s = the_view c.self.inside in
    let polled = polled-as c.args.age c.args.now s _ c.retire-latest.result c.if-self.false (sym c.waits_up_to.ensures.answer ∙ c.if-waits_up_to.false) c.retire-latest.ensures.latest (cc (ap (λ x. x.list) c.retire-latest.ensures.state, ap (λ x. x.next) c.retire-latest.ensures.state)) in
    c.seek.ensures.state ∙ ap (λ p. p.state) polled ∙ ap (λ t. (poll_request c.args.age c.args.now t).state) c.self.view_is

pub returns-clause-answer : goal.returns-clause-answer
returns-clause-answer g c =
    let s = the_view c.self.inside in
    let polled = polled-as c.args.age c.args.now s _ c.retire-latest.result c.if-self.false (sym c.waits_up_to.ensures.answer ∙ c.if-waits_up_to.false) c.retire-latest.ensures.latest (cc (ap (λ x. x.list) c.retire-latest.ensures.state, ap (λ x. x.next) c.retire-latest.ensures.state)) in
    c.seek.ensures.answer ∙ ap (λ p. p.answer) polled ∙ ap (λ t. (poll_request c.args.age c.args.now t).answer) c.self.view_is
