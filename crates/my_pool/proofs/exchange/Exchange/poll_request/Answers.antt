use Rattle.std.proofs.Common.{◌≡◌, ◌≤◌, ◌<◌, ℕ, List, Bool, Some, true, false, sym, ap, subst, ◌∙◌, refl, arith, length}
use Rattle.std.specs.Prelude.{◌&&◌, ◌==◌, is_some}
use Rattle.my_pool_parts.specs.Lists.{how_many}
use Rattle.my_pool_core.specs.Counted.{room}
use Rattle.my_pool_core.specs.Events.{poll_request}
use Rattle.my_pool_core.specs.Moves.{PolledPlaces, polled_token}
use Rattle.my_pool_core.specs.Owners.{Free, token}
use Rattle.my_pool_core.specs.Sound.{IsSound}
use Rattle.my_pool_core.specs.State.{State}
use Rattle.my_pool_core.specs.Wakes.{waits}
use Rattle.my_pool_core.specs.declared.event.PollAnswer.{PollAnswer}
use Rattle.my_pool_core.specs.declared.event.PollAnswer.TheVariants.{Wait, Take, Dial, Closed, Full}
use Rattle.my_pool_core.specs.declared.event.PoolEvent.TheVariants as events
use Rattle.my_pool_core.proofs.Always.{sound-step}
use Rattle.my_pool_core.proofs.Asked.Tokens.{may-poll}
use Rattle.my_pool_core.proofs.Placed.Counts.{room-stays, take-idle}
use Rattle.my_pool_core.proofs.Placed.Moves.{places-move}
use Rattle.my_pool.specs.Asks.{is_wait, GivesFit, TakesOneLess}
use Rattle.my_pool_store.specs.Woken.{kept_for}
use Rattle.my_pool_store.proofs.Calling.{waker-room, kept-waits, kept-once, left-of}
use Rattle.my_pool.proofs.Requesting.{poll-gives, poll-stored, polled-own, polled-waits}
use Rattle.my_pool.proofs.Waiting.{own-ages}
use Rattle.my_pool.proofs.Wholes.{whole-event, still-fits}
use Rattle.my_pool.proofs.exchange.Exchange.poll_request.Goals as goal

wait-is : (a : PollAnswer) → is_wait a ≡ true → a ≡ Wait
wait-is Wait e = refl
wait-is (Take n) e = absurd (cc)
wait-is (Dial n) e = absurd (cc)
wait-is Closed e = absurd (cc)
wait-is (Full waiting limit) e = absurd (cc)

first-true : (a b : Bool) → (a && b) ≡ true → a ≡ true
first-true true b e = refl
first-true false b e = absurd (cc)

-- after the poll there is room for its waker
polled-room : (age now k : ℕ) (s t : State) (ages left : List ℕ) → IsSound s → room s ≤ k → token age s ≡ Some Free → t ≡ (poll_request age now s).state → ((b : ℕ) → how_many (λ a. a == b) ages ≤ 1)
    → left ≡ left-of age t ages → waits age t ≡ true → length left < k
polled-room age now k s t ages left h reserved free at once is w =
    let m = may-poll s age free in
    let sound : IsSound t = subst IsSound (sym at) (sound-step s (events.PollRequest age now) h m) in
    let same : room t ≡ room s = ap room at ∙ room-stays s (events.PollRequest age now) h m (λ e. cc) in
    subst (λ l. length l < k) (sym is) (waker-room age k t ages sound (omega (arith, same, reserved)) once w)

fewer-idle : (a : PollAnswer) (age now : ℕ) (s : State) → IsSound s → (poll_request age now s).answer ≡ a → TakesOneLess a s (poll_request age now s).state
fewer-idle Wait age now s h e = tt
fewer-idle (Take n) age now s h e = omega (arith, take-idle s age now n h e)
fewer-idle (Dial n) age now s h e = tt
fewer-idle Closed age now s h e = tt
fewer-idle (Full waiting limit) age now s h e = tt

pub keep_where-rest-requires : goal.keep_where-rest-requires
keep_where-rest-requires g c = λ e.
    let i = c.self.inside in
    let w = c.self.invariant in
    let age = c.args.age in
    let t = c.poll_request-answer.new.self in
    let free : token age i.core ≡ Some Free = ap (λ p. token age p.state) c.self.view_is ∙ c.requires in
    let answer = sym c.poll_request-answer.ensures.answer ∙ wait-is c.poll_request-answer.result (sym c.is_wait.ensures ∙ e) in
    let here : waits age t ≡ true = ap (waits age) c.poll_request-answer.ensures.state ∙ polled-waits age c.args.now i.core w.sound free answer in
    let left : c.forget.new.self.ages ≡ left-of age t i.wakers.ages = c.forget.ensures.ages ∙ own-ages i.core t (events.PollRequest age c.args.now) age i.wakers.ages w.sound (may-poll i.core age free) c.poll_request-answer.ensures.state (λ a. refl) (λ a. refl) (w.called_once age) w.called in
    let enough = polled-room age c.args.now i.wakers.room i.core t i.wakers.ages c.forget.new.self.ages w.sound w.waker_room free c.poll_request-answer.ensures.state w.called_once left here in
    omega (arith, enough, c.forget.ensures.room)

pub invariant_of-self : goal.invariant_of-self
invariant_of-self g c =
    let i = c.self.inside in
    let w = c.self.invariant in
    let age = c.args.age in
    let t = c.poll_request-answer.new.self in
    let answer = c.poll_request-answer.result in
    let free : token age i.core ≡ Some Free = ap (λ p. token age p.state) c.self.view_is ∙ c.requires in
    let may = may-poll i.core age free in
    let told : PolledPlaces c.args.now answer i.core t = rw (c.poll_request-answer.ensures.state, c.poll_request-answer.ensures.answer) (places-move i.core (events.PollRequest age c.args.now) w.sound may) in
    let left : c.forget.new.self.ages ≡ left-of age t i.wakers.ages = c.forget.ensures.ages ∙ own-ages i.core t (events.PollRequest age c.args.now) age i.wakers.ages w.sound (may-poll i.core age free) c.poll_request-answer.ensures.state (λ a. refl) (λ a. refl) (w.called_once age) w.called in
    let keeps = c.is_wait.result && is_some c.args.waker in
    let kept : c.keep_where-rest.new.self.ages ≡ kept_for age keeps (left-of age t i.wakers.ages) = c.keep_where-rest.ensures.ages ∙ ap (kept_for age keeps) left in
    let here : keeps ≡ true → waits age t ≡ true = λ k.
    let e = first-true c.is_wait.result (is_some c.args.waker) k in
    ap (waits age) c.poll_request-answer.ensures.state ∙ polled-waits age c.args.now i.core w.sound free (sym c.poll_request-answer.ensures.answer ∙ wait-is answer (sym c.is_wait.ensures ∙ e))
    in
    whole-event _ i.core t (events.PollRequest age c.args.now) i.shelf c.take_by-conn.new.self i.wakers c.keep_where-rest.new.self _ _ _ i.gone w
    may c.poll_request-answer.ensures.state (λ e. cc)
    (rw c.take_by-conn.ensures.kept (poll-stored answer c.args.now i.core t i.shelf.kept w.stored told))
    (omega (arith, c.take_by-conn.ensures.room))
    (rw kept (kept-waits age keeps t i.wakers.ages here))
    (λ b. rw kept (kept-once age b keeps t i.wakers.ages w.called_once))
    (omega (arith, c.keep_where-rest.ensures.room, c.forget.ensures.room)) c.note.ensures
    (still-fits _ i.core t (events.PollRequest age c.args.now) i.shelf i.wakers _ i.gone w may c.poll_request-answer.ensures.state (λ e. cc))

pub returns-clause-fit : goal.returns-clause-fit
returns-clause-fit g c =
    let i = c.self.inside in
    let w = c.self.invariant in
    let t = c.poll_request-answer.new.self in
    let answer = c.poll_request-answer.result in
    let free : token c.args.age i.core ≡ Some Free = ap (λ p. token c.args.age p.state) c.self.view_is ∙ c.requires in
    let told : PolledPlaces c.args.now answer i.core t = rw (c.poll_request-answer.ensures.state, c.poll_request-answer.ensures.answer) (places-move i.core (events.PollRequest c.args.age c.args.now) w.sound (may-poll i.core c.args.age free)) in
    subst (GivesFit answer) (sym c.take_by-conn.ensures.found) (poll-gives answer c.args.now i.core t i.shelf.kept w.stored told)

pub returns-clause-holds : goal.returns-clause-holds
returns-clause-holds g c =
    let i = c.self.inside in
    let age = c.args.age in
    let free : token age i.core ≡ Some Free = ap (λ p. token age p.state) c.self.view_is ∙ c.requires in
    ap (token age) c.poll_request-answer.ensures.state ∙ polled-own age c.args.now i.core c.self.invariant.sound free ∙ ap (polled_token age) (sym c.poll_request-answer.ensures.answer)

pub returns-clause-fewer : goal.returns-clause-fewer
returns-clause-fewer g c =
    let i = c.self.inside in
    let less : TakesOneLess c.poll_request-answer.result i.core c.poll_request-answer.new.self = rw c.poll_request-answer.ensures.state (fewer-idle c.poll_request-answer.result c.args.age c.args.now i.core c.self.invariant.sound (sym c.poll_request-answer.ensures.answer)) in
    rw (← c.self.view_is) less

pub returns-clause-called : goal.returns-clause-called
returns-clause-called g c =
    let i = c.self.inside in
    let w = c.self.invariant in
    let age = c.args.age in
    let t = c.poll_request-answer.new.self in
    let free : token age i.core ≡ Some Free = ap (λ p. token age p.state) c.self.view_is ∙ c.requires in
    let left : c.forget.new.self.ages ≡ left-of age t i.wakers.ages = c.forget.ensures.ages ∙ own-ages i.core t (events.PollRequest age c.args.now) age i.wakers.ages w.sound (may-poll i.core age free) c.poll_request-answer.ensures.state (λ a. refl) (λ a. refl) (w.called_once age) w.called in
    let keeps = c.is_wait.result && is_some c.args.waker in
    rw (← c.self.view_is, ← c.is_wait.ensures) (c.keep_where-rest.ensures.ages ∙ ap (kept_for age keeps) left)
