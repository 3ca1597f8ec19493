-- What a request holds after any event, and what may happen by what it holds.
use Rattle.std.proofs.Common.{◌≡◌, ℕ, Bool, true, false, cond, Option, Some, None, refl, sym, ap, ◌∙◌}
use Rattle.std.specs.Prelude.{option_map, ◌==◌, ◌||◌, not, if◌then◌else◌}
use Rattle.std.proofs.lemmas.Bool.{eqb-true, eq-eqb}
use Rattle.my_pool_core.specs.declared.event.PollAnswer.{PollAnswer}
use Rattle.my_pool_core.specs.declared.event.PollAnswer.TheVariants.{Wait, Take, Dial, Closed, Full}
use Rattle.my_pool_core.specs.declared.event.PoolEvent.{PoolEvent}
use Rattle.my_pool_core.specs.declared.event.PoolEvent.TheVariants as events
use Rattle.my_pool_parts.specs.declared.request.Request.{Request}
use Rattle.my_pool_parts.specs.declared.request.Standing.{Standing}
use Rattle.my_pool_parts.specs.declared.request.Standing.TheVariants.{Asks, Waits, Woken, Dials, Checks}
use Rattle.my_pool_parts.specs.Lists.{found_is}
use Rattle.my_pool_parts.specs.Requests.{last_age, is_free, is_asking_standing, is_dialing, is_dialing_standing, is_checking_standing, standing_as, holds, holds_number, is_live}
use Rattle.my_pool_core.specs.State.{State}
use Rattle.my_pool_core.specs.Events.{request_age, poll_request, is_at_end, may_poll, may_settle, may_cancel}
use Rattle.my_pool_core.specs.Steps.{may, step}
use Rattle.my_pool_core.specs.Sound.{IsSound}
use Rattle.my_pool_core.specs.Owners.{Token, Free, token_of, token, number_in}
use Rattle.my_pool_core.specs.Moves.{ended_token, polled_token, failed_token, token_after}
use Rattle.my_pool_core.specs.Wakes.{wakes, waits, is_oldest}
use Rattle.my_pool_core.proofs.Kept.{found-req}
use Rattle.my_pool_core.proofs.Kept.Quiet.{req}
use Rattle.my_pool_core.proofs.Asked.{ended_request, roused_if}
use Rattle.my_pool_core.proofs.Asked.Stepping.{request_at, request_after, next-unborn, polled_request, failed_request, asked_request, woken_request, find-step, last-asks}

abbrev token_in : Option Request → Option Token
token_in o = option_map (λ r. token_of r.standing) o

-- ---- the tokens of requests that were woken, ended, or begun ----

roused-token : (wakes : Bool) (a : ℕ) (w : Bool) (st : Standing) → token_of (roused_if wakes (req a w st)).standing ≡ token_of st
roused-token false a w st = refl
roused-token true a w Asks = refl
roused-token true a w Waits = refl
roused-token true a w Woken = refl
roused-token true a w (Dials n) = refl
roused-token true a w (Checks n) = refl

woken-token : (wakes : Bool) (o : Option Request) → token_in (woken_request wakes o) ≡ token_in o
woken-token wakes None = refl
woken-token wakes (Some r) = ap (λ t. Some t) (roused-token wakes r.age r.waited r.standing)

asks-free : (st : Standing) → is_asking_standing st ≡ true → token_of st ≡ Free
asks-free Asks e = refl
asks-free Waits e = absurd (cc)
asks-free Woken e = absurd (cc)
asks-free (Dials n) e = absurd (cc)
asks-free (Checks n) e = absurd (cc)

-- a live request that ended
ended-token : (age : ℕ) (s : State) (r : Request) → IsSound s → request_at age s ≡ Some r → token_in (ended_request age (request_at age s)) ≡ ended_token age
ended-token age s r h e =
    elim (age == last_age) as (λ b. (age == last_age) ≡ b → token_in (cond b (request_at age s) None) ≡ cond b (Some Free) None) [
      | true ↦ λ k.
          let at : request_at last_age s ≡ Some r = ap (λ a. request_at a s) (sym (eqb-true age last_age k)) ∙ e in
          ap token_in e ∙ ap (λ t. Some t) (asks-free r.standing (last-asks s r h at))
      | false ↦ λ k. refl
    ] refl

asked-token : (age : ℕ) (s : State) (o : Option Request) → IsSound s → (age ≡ last_age) → request_at last_age s ≡ o → token_in (asked_request age o) ≡ Some Free
asked-token age s None h e k = refl
asked-token age s (Some r) h e k = ap (λ t. Some t) (asks-free r.standing (last-asks s r h k))

polled-token : (a : PollAnswer) (age : ℕ) (s : State) (r : Request) → IsSound s → request_at age s ≡ Some r → token_of r.standing ≡ Free → token_in (polled_request age a (request_at age s)) ≡ polled_token age a
polled-token Wait age s r h e free = ap (λ o. token_in (polled_request age Wait o)) e
polled-token (Take n) age s r h e free = ap (λ o. token_in (polled_request age (Take n) o)) e
polled-token (Dial n) age s r h e free = ap (λ o. token_in (polled_request age (Dial n) o)) e
polled-token Closed age s r h e free = ended-token age s r h e
polled-token (Full waiting limit) age s r h e free = ended-token age s r h e

free-token : (st : Standing) → not (is_dialing_standing st || is_checking_standing st) ≡ true → token_of st ≡ Free
free-token Asks e = refl
free-token Waits e = refl
free-token Woken e = refl
free-token (Dials n) e = absurd (cc)
free-token (Checks n) e = absurd (cc)

failed-token : (st : Standing) (age n a : ℕ) (w : Bool) (s : State) → IsSound s → request_at age s ≡ Some (req a w st) → holds_number n st ≡ true → token_in (failed_request age (request_at age s)) ≡ failed_token age (token age s)
failed-token (Dials m) age n a w s h e k =
    ap (λ o. token_in (if found_is is_dialing o then ended_request age (request_at age s) else option_map (standing_as Asks) (request_at age s))) e
    ∙ ended-token age s (req a w (Dials m)) h e ∙ ap (λ o. failed_token age (token_in o)) (sym e)
failed-token (Checks m) age n a w s h e k = ap (λ o. token_in (failed_request age o)) e ∙ ap (λ o. failed_token age (token_in o)) (sym e)
failed-token Asks age n a w s h e k = absurd (cc)
failed-token Waits age n a w s h e k = absurd (cc)
failed-token Woken age n a w s h e k = absurd (cc)

-- ---- any event ----

-- by whether this is the age that an event is about
by-age : (k : Bool) (own other : Option Request) (t u : Option Token) → (k ≡ true → token_in own ≡ t) → token_in other ≡ u → token_in (if k then own else other) ≡ (if k then t else u)
by-age true own other t u p q = p refl
by-age false own other t u p q = q

-- the age of a new request isn't live, or is the last one
asked-own : (s : State) (b : ℕ) → IsSound s → (b == request_age s) ≡ true → token_in (asked_request b (request_at b s)) ≡ Some Free
asked-own s b h k =
    by_end (is_at_end s) refl
  where
    by_end : (t : Bool) → is_at_end s ≡ t → token_in (asked_request b (request_at b s)) ≡ Some Free
    by_end true e =
        let same : b ≡ last_age = eqb-true b (request_age s) k ∙ ap (λ t. cond t last_age s.next_age) e in
        asked-token b s (request_at b s) h same (ap (λ a. request_at a s) (sym same))
    by_end false e =
        let same : b ≡ s.next_age = eqb-true b (request_age s) k ∙ ap (λ t. cond t last_age s.next_age) e in
        ap (λ o. token_in (asked_request b o)) (ap (λ a. request_at a s) same ∙ next-unborn s h e)

token-step : (s : State) (e : PoolEvent) (b : ℕ) → IsSound s → may s e ≡ true → token_in (request_after s e b) ≡ token_after s e b
token-step s events.Request b h m = by-age (b == request_age s) (asked_request b (request_at b s)) (woken_request (wakes s events.Request b) (request_at b s)) (Some Free) (token b s) (λ k. asked-own s b h k) (woken-token (wakes s events.Request b) (request_at b s))
token-step s (events.PollRequest age now) b h m =
    let f = found-req is_free age s.requests m in
    let a = (poll_request age now s).answer in
    by-age (b == age) (polled_request age a (request_at age s)) (request_at b s) (polled_token age a) (token b s) (λ _. polled-token a age s f.0 h f.1 (free-token f.0.standing f.2)) refl
token-step s (events.Cancel age) b h m =
    let f = found-req is_live age s.requests m in
    let w = wakes s (events.Cancel age) b in
    by-age (b == age) (ended_request age (request_at age s)) (woken_request w (request_at b s)) (ended_token age) (token b s) (λ _. ended-token age s f.0 h f.1) (woken-token w (request_at b s))
token-step s (events.Ready age n) b h m =
    let f = found-req (holds n) age s.requests m in
    by-age (b == age) (ended_request age (request_at age s)) (request_at b s) (ended_token age) (token b s) (λ _. ended-token age s f.0 h f.1) refl
token-step s (events.Failed age n) b h m =
    let f = found-req (holds n) age s.requests m in
    by-age (b == age) (failed_request age (request_at age s)) (woken_request (is_oldest b s) (request_at b s)) (failed_token age (token age s)) (token b s)
    (λ _. failed-token f.0.standing age n f.0.age f.0.waited s h f.1 f.2) (woken-token (is_oldest b s) (request_at b s))
token-step s (events.GiveBack n) b h m = refl
token-step s (events.Detach n) b h m = woken-token (is_oldest b s) (request_at b s)
token-step s events.TakeReturned b h m = refl
token-step s (events.Decide n facts now) b h m = woken-token (wakes s (events.Decide n facts now) b) (request_at b s)
token-step s (events.Done n ok facts now) b h m = woken-token (wakes s (events.Done n ok facts now) b) (request_at b s)
token-step s (events.CheckTtl now) b h m = refl
token-step s events.Close b h m = woken-token (waits b s) (request_at b s)
token-step s events.PollDisconnect b h m = refl

pub tokens-move : (s : State) (e : PoolEvent) (b : ℕ) → IsSound s → may s e ≡ true → token b (step s e) ≡ token_after s e b
tokens-move s e b h m = ap token_in (find-step s e b h m) ∙ token-step s e b h m

-- ---- what may happen by what a request holds ----

token-found : (o : Option Request) (t : Token) → token_in o ≡ Some t → (r : Request) × (o ≡ Some r) × (token_of r.standing ≡ t)
token-found None t e = absurd (cc)
token-found (Some r) t e = (r, refl, cc)

pub token-at : (age : ℕ) (s : State) (t : Token) → token age s ≡ Some t → (r : Request) × (request_at age s ≡ Some r) × (token_of r.standing ≡ t)
token-at age s t e = token-found (request_at age s) t e

free-standing : (st : Standing) → token_of st ≡ Free → not (is_dialing_standing st || is_checking_standing st) ≡ true
free-standing Asks e = refl
free-standing Waits e = refl
free-standing Woken e = refl
free-standing (Dials n) e = absurd (cc)
free-standing (Checks n) e = absurd (cc)

held-standing : (st : Standing) (n : ℕ) → number_in (token_of st) ≡ Some n → holds_number n st ≡ true
held-standing Asks n e = absurd (cc)
held-standing Waits n e = absurd (cc)
held-standing Woken n e = absurd (cc)
held-standing (Dials m) n e = let same : m ≡ n = cc in eq-eqb m n same
held-standing (Checks m) n e = let same : m ≡ n = cc in eq-eqb m n same

pub may-poll : (s : State) (age : ℕ) → token age s ≡ Some Free → may_poll age s ≡ true
may-poll s age e = let f = token-at age s Free e in ap (found_is is_free) f.1 ∙ free-standing f.0.standing f.2

pub may-settle : (s : State) (age n : ℕ) (t : Token) → token age s ≡ Some t → number_in t ≡ Some n → may_settle age n s ≡ true
may-settle s age n t e k = let f = token-at age s t e in ap (found_is (holds n)) f.1 ∙ held-standing f.0.standing n (ap number_in f.2 ∙ k)

pub may-cancel : (s : State) (age : ℕ) (t : Token) → token age s ≡ Some t → may_cancel age s ≡ true
may-cancel s age t e = let f = token-at age s t e in ap (found_is is_live) f.1
