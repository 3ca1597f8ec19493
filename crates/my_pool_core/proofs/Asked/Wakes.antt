-- Which requests are awake, and which wait, after any event.
use Rattle.std.proofs.Common.{◌≡◌, ℕ, ◌+◌, ◌≤◌, Bool, true, false, cond, Option, Some, None, List, [], ◌∷◌, refl, sym, ap, ◌∙◌, arith}
use Rattle.std.specs.Prelude.{find, option_map, ◌==◌, ◌||◌, ◌&&◌, not, if◌then◌else◌}
use Rattle.std.proofs.lemmas.Bool.{eqb-true, eq-eqb}
use Rattle.my_pool_core.specs.declared.event.PollAnswer.{PollAnswer}
use Rattle.my_pool_core.specs.declared.event.PollAnswer.TheVariants.{Wait, Take, Dial, Closed, Full}
use Rattle.my_pool_core.specs.declared.event.PoolEvent.{PoolEvent}
use Rattle.my_pool_core.specs.declared.event.PoolEvent.TheVariants as events
use Rattle.my_pool_parts.specs.declared.request.Request.{Request}
use Rattle.my_pool_parts.specs.declared.request.Standing.{Standing}
use Rattle.my_pool_parts.specs.declared.request.Standing.TheVariants.{Asks, Waits, Woken, Dials, Checks}
use Rattle.my_pool_parts.specs.Lists.{found_is}
use Rattle.my_pool_parts.specs.Requests.{last_age, has_age, is_free, is_waiting, is_waiting_standing, is_woken, is_woken_standing, is_asking_standing, is_dialing, standing_as, holds, holds_number, IsRising, oldest_in}
use Rattle.my_pool_core.specs.State.{State}
use Rattle.my_pool_core.specs.Events.{request_age, poll_request, decide, done, is_at_end}
use Rattle.my_pool_core.specs.Steps.{may, step}
use Rattle.my_pool_core.specs.Sound.{IsSound}
use Rattle.my_pool_core.specs.Wakes.{wakes, waits, is_awake, is_oldest, oldest_waiting, is_turn_of, is_wait, begins_to_wait, hands_on, frees}
use Rattle.my_pool_core.proofs.Kept.{found-req}
use Rattle.my_pool_core.proofs.Kept.Quiet.{req}
use Rattle.my_pool_core.proofs.Asked.{ended_request, is_oldest_in, roused_if, find-below}
use Rattle.my_pool_core.proofs.Asked.Stepping.{request_at, request_after, next-unborn, polled_request, failed_request, asked_request, woken_request, find-step, last-asks}

-- ---- what tests tell of a request that was woken where a test says so, and it waits ----

-- the test is passed only where it waits
abbrev Only : Bool → Option Request → Type 0
Only w o = w ≡ true → found_is is_waiting o ≡ true

roused-awake : (w : Bool) (a : ℕ) (k : Bool) (st : Standing) → (w ≡ true → is_waiting_standing st ≡ true) → is_woken (roused_if w (req a k st)) ≡ (w || is_woken_standing st)
roused-awake false a k st only = refl
roused-awake true a k Waits only = refl
roused-awake true a k Asks only = absurd (let e = only refl in cc)
roused-awake true a k Woken only = refl
roused-awake true a k (Dials n) only = absurd (let e = only refl in cc)
roused-awake true a k (Checks n) only = absurd (let e = only refl in cc)

roused-waits : (w : Bool) (a : ℕ) (k : Bool) (st : Standing) → (w ≡ true → is_waiting_standing st ≡ true) → is_waiting (roused_if w (req a k st)) ≡ (is_waiting_standing st && not w)
roused-waits false a k Asks only = refl
roused-waits false a k Waits only = refl
roused-waits false a k Woken only = refl
roused-waits false a k (Dials n) only = refl
roused-waits false a k (Checks n) only = refl
roused-waits true a k Waits only = refl
roused-waits true a k Asks only = refl
roused-waits true a k Woken only = refl
roused-waits true a k (Dials n) only = refl
roused-waits true a k (Checks n) only = refl

woken-awake : (w : Bool) (o : Option Request) → Only w o → found_is is_woken (woken_request w o) ≡ (w || found_is is_woken o)
woken-awake true None only = absurd (let e = only refl in cc)
woken-awake false None only = refl
woken-awake w (Some r) only = roused-awake w r.age r.waited r.standing only

woken-waits : (w : Bool) (o : Option Request) → Only w o → found_is is_waiting (woken_request w o) ≡ (found_is is_waiting o && not w)
woken-waits w None only = refl
woken-waits w (Some r) only = roused-waits w r.age r.waited r.standing only

-- ---- the oldest one waits ----

pub oldest-waits : (low b : ℕ) (rs : List Request) → IsRising low rs → is_oldest_in b rs ≡ true → found_is is_waiting (find (has_age b) rs) ≡ true
oldest-waits low b [] h e = absurd (cc)
oldest-waits low b (r ∷ rs) h e =
    elim (is_waiting r) as (λ w. is_waiting r ≡ w → found_is (λ a. a == b) (option_map (λ r. r.age) (cond w (Some r) (find is_waiting rs))) ≡ true → found_is is_waiting (cond (has_age b r) (Some r) (find (has_age b) rs)) ≡ true) [
      | true ↦ λ w k. ap (λ t. found_is is_waiting (cond t (Some r) (find (has_age b) rs))) k ∙ w
      | false ↦ λ w k.
          let rest = oldest-waits (r.age + 1) b rs h.1 k in
          elim (has_age b r) as (λ t. has_age b r ≡ t → found_is is_waiting (cond t (Some r) (find (has_age b) rs)) ≡ true) [
            | true ↦ λ t.
                let same : r.age ≡ b = eqb-true r.age b t in
                let none = find-below (r.age + 1) b rs h.1 (omega arith) in
                absurd (let no : false ≡ true = sym (ap (found_is is_waiting) none) ∙ rest in cc)
            | false ↦ λ t. rest
          ] refl
    ] refl e

and-right : (a b : Bool) → (a && b) ≡ true → b ≡ true
and-right true b e = e
and-right false b e = absurd (cc)

-- an event wakes only what waits
pub wakes-waiting : (s : State) (e : PoolEvent) (b : ℕ) → IsSound s → wakes s e b ≡ true → waits b s ≡ true
wakes-waiting s events.Request b h e = and-right (is_at_end s) (waits b s) e
wakes-waiting s events.Close b h e = e
wakes-waiting s (events.Cancel age) b h e = oldest-waits 0 b s.requests h.rising (and-right (found_is (λ r. hands_on r.standing) (request_at age s)) (is_oldest b s) e)
wakes-waiting s (events.Failed age n) b h e = oldest-waits 0 b s.requests h.rising e
wakes-waiting s (events.Detach n) b h e = oldest-waits 0 b s.requests h.rising e
wakes-waiting s (events.Decide n facts now) b h e = oldest-waits 0 b s.requests h.rising (and-right (frees (decide n facts now s).answer) (is_oldest b s) e)
wakes-waiting s (events.Done n ok facts now) b h e = oldest-waits 0 b s.requests h.rising (and-right (frees (done n ok facts now s).answer) (is_oldest b s) e)
wakes-waiting s (events.PollRequest age now) b h e = absurd (cc)
wakes-waiting s (events.Ready age n) b h e = absurd (cc)
wakes-waiting s (events.GiveBack n) b h e = absurd (cc)
wakes-waiting s events.TakeReturned b h e = absurd (cc)
wakes-waiting s (events.CheckTtl now) b h e = absurd (cc)
wakes-waiting s events.PollDisconnect b h e = absurd (cc)

-- so it doesn't wake one that doesn't wait
wakes-none : (s : State) (e : PoolEvent) (b : ℕ) → IsSound s → waits b s ≡ false → wakes s e b ≡ false
wakes-none s e b h quiet = by_test (wakes s e b) refl
  where
    by_test : (w : Bool) → wakes s e b ≡ w → wakes s e b ≡ false
    by_test true k = absurd (let t = wakes-waiting s e b h k in cc)
    by_test false k = k

-- ---- requests that an event is about ----

abbrev Quiet : Option Request → Type 0
Quiet o = (found_is is_woken o ≡ false) × (found_is is_waiting o ≡ false)

asks-quiet : (st : Standing) → is_asking_standing st ≡ true → (is_woken_standing st ≡ false) × (is_waiting_standing st ≡ false)
asks-quiet Asks e = (refl, refl)
asks-quiet Waits e = absurd (cc)
asks-quiet Woken e = absurd (cc)
asks-quiet (Dials n) e = (refl, refl)
asks-quiet (Checks n) e = (refl, refl)

last-quiet : (s : State) → IsSound s → (o : Option Request) → request_at last_age s ≡ o → Quiet o
last-quiet s h None e = (refl, refl)
last-quiet s h (Some r) e = asks-quiet r.standing (last-asks s r h e)

-- one that ended
gone-quiet : (age : ℕ) (s : State) → IsSound s → Quiet (ended_request age (request_at age s))
gone-quiet age s h =
    elim (age == last_age) as (λ b. (age == last_age) ≡ b → Quiet (cond b (request_at age s) None)) [
      | true ↦ λ k. last-quiet s h (request_at age s) (ap (λ a. request_at a s) (sym (eqb-true age last_age k)))
      | false ↦ λ k. (refl, refl)
    ] refl

held-quiet : (n : ℕ) (st : Standing) → holds_number n st ≡ true → (is_woken_standing st ≡ false) × (is_waiting_standing st ≡ false)
held-quiet n Asks e = absurd (cc)
held-quiet n Waits e = absurd (cc)
held-quiet n Woken e = absurd (cc)
held-quiet n (Dials m) e = (refl, refl)
held-quiet n (Checks m) e = (refl, refl)

mapped-quiet : (st : Standing) (o : Option Request) → is_woken_standing st ≡ false → is_waiting_standing st ≡ false → Quiet (option_map (standing_as st) o)
mapped-quiet st None w k = (refl, refl)
mapped-quiet st (Some r) w k = (w, k)

failed-quiet : (age : ℕ) (s : State) → IsSound s → Quiet (failed_request age (request_at age s))
failed-quiet age s h =
    elim (found_is is_dialing (request_at age s)) as (λ b. Quiet (cond b (ended_request age (request_at age s)) (option_map (standing_as Asks) (request_at age s)))) [
      | true ↦ gone-quiet age s h
      | false ↦ mapped-quiet Asks (request_at age s) refl refl
    ]

polled-awake : (a : PollAnswer) (age : ℕ) (s : State) → IsSound s → found_is is_woken (polled_request age a (request_at age s)) ≡ false
polled-awake Wait age s h = waits-asleep (request_at age s)
  where
    waits-asleep : (o : Option Request) → found_is is_woken (polled_request age Wait o) ≡ false
    waits-asleep None = refl
    waits-asleep (Some r) = refl
polled-awake (Take n) age s h = (mapped-quiet (Checks n) (request_at age s) refl refl).0
polled-awake (Dial n) age s h = (mapped-quiet (Dials n) (request_at age s) refl refl).0
polled-awake Closed age s h = (gone-quiet age s h).0
polled-awake (Full waiting limit) age s h = (gone-quiet age s h).0

polled-waits : (a : PollAnswer) (age : ℕ) (s : State) (r : Request) → IsSound s → request_at age s ≡ Some r → found_is is_waiting (polled_request age a (request_at age s)) ≡ is_wait a
polled-waits Wait age s r h e = ap (λ o. found_is is_waiting (polled_request age Wait o)) e
polled-waits (Take n) age s r h e = (mapped-quiet (Checks n) (request_at age s) refl refl).1
polled-waits (Dial n) age s r h e = (mapped-quiet (Dials n) (request_at age s) refl refl).1
polled-waits Closed age s r h e = (gone-quiet age s h).1
polled-waits (Full waiting limit) age s r h e = (gone-quiet age s h).1

-- the age of a new request: nobody waited or was woken
begun-quiet : (s : State) (b : ℕ) → IsSound s → (b == request_age s) ≡ true → Quiet (request_at b s)
begun-quiet s b h k = by_end (is_at_end s) refl
  where
    by_end : (t : Bool) → is_at_end s ≡ t → Quiet (request_at b s)
    by_end true e = last-quiet s h (request_at b s) (ap (λ a. request_at a s) (sym (eqb-true b (request_age s) k ∙ ap (λ t. cond t last_age s.next_age) e)))
    by_end false e =
        let none : request_at b s ≡ None = ap (λ a. request_at a s) (eqb-true b (request_age s) k ∙ ap (λ t. cond t last_age s.next_age) e) ∙ next-unborn s h e in
        (ap (found_is is_woken) none, ap (found_is is_waiting) none)

asked-same : (b : ℕ) (o : Option Request) → Quiet o → Quiet (asked_request b o)
asked-same b None q = (refl, refl)
asked-same b (Some r) q = q

-- ---- any event ----

abbrev Awake : State → PoolEvent → ℕ → Option Request → Type 0
Awake s e b o = found_is is_woken o ≡ (wakes s e b || (is_awake b s && not (is_turn_of b e)))

abbrev Waiting : State → PoolEvent → ℕ → Option Request → Type 0
Waiting s e b o = found_is is_waiting o ≡ (begins_to_wait s e b || (waits b s && not (wakes s e b) && not (is_turn_of b e)))

and-false : (a : Bool) → (a && false) ≡ false
and-false true = refl
and-false false = refl

and-true : (a : Bool) → (a && true) ≡ a
and-true true = refl
and-true false = refl

-- a request that an event isn't about
other-awake : (w : Bool) (o : Option Request) → Only w o → found_is is_woken (woken_request w o) ≡ (w || (found_is is_woken o && true))
other-awake w o only = woken-awake w o only ∙ ap (λ x. w || x) (sym (and-true (found_is is_woken o)))

other-waits : (w : Bool) (o : Option Request) → Only w o → found_is is_waiting (woken_request w o) ≡ (found_is is_waiting o && not w && true)
other-waits w o only = woken-waits w o only ∙ sym (and-true (found_is is_waiting o && not w))

same-waits : (a : Bool) → a ≡ (a && true && true)
same-waits true = refl
same-waits false = refl

-- one that was quiet
none-awake : (w a t : Bool) → w ≡ false → a ≡ false → (w || (a && t)) ≡ false
none-awake false false t e k = refl
none-awake true a t e k = absurd (cc)
none-awake false true t e k = absurd (cc)

none-waits : (a w t : Bool) → a ≡ false → (a && not w && t) ≡ false
none-waits false w t e = refl
none-waits true w t e = absurd (cc)

by-case : (k : Bool) (P : Bool → Type 0) → (k ≡ true → P true) → (k ≡ false → P false) → P k
by-case true P p q = p refl
by-case false P p q = q refl

-- one that hands its wake on doesn't wait
handing-quiet : (st : Standing) → is_waiting_standing st ≡ true → hands_on st ≡ false
handing-quiet Asks e = refl
handing-quiet Waits e = refl
handing-quiet Woken e = absurd (cc)
handing-quiet (Dials n) e = absurd (cc)
handing-quiet (Checks n) e = absurd (cc)

-- a request that is given up isn't woken by that
cancel-own : (s : State) (age b : ℕ) → IsSound s → (b == age) ≡ true → wakes s (events.Cancel age) b ≡ false
cancel-own s age b h k = by_test (waits b s) refl
  where
    quiet : (o : Option Request) → found_is is_waiting o ≡ true → found_is (λ r. hands_on r.standing) o ≡ false
    quiet None e = refl
    quiet (Some r) e = handing-quiet r.standing e

    by_test : (w : Bool) → waits b s ≡ w → wakes s (events.Cancel age) b ≡ false
    by_test false e = wakes-none s (events.Cancel age) b h e
    by_test true e = ap (λ x. x && is_oldest b s) (quiet (request_at age s) (ap (λ a. waits a s) (sym (eqb-true b age k)) ∙ e))

held-at : (n age b : ℕ) (s : State) → IsSound s → found_is (holds n) (request_at age s) ≡ true → (b == age) ≡ true → Quiet (request_at b s)
held-at n age b s h m k =
    let f = found-req (holds n) age s.requests m in
    let at = ap (λ a. request_at a s) (eqb-true b age k) ∙ f.1 in
    let q = held-quiet n f.0.standing f.2 in
    (ap (found_is is_woken) at ∙ q.0, ap (found_is is_waiting) at ∙ q.1)

awake-after : (s : State) (e : PoolEvent) (b : ℕ) → IsSound s → may s e ≡ true → Awake s e b (request_after s e b)
awake-after s events.Request b h m =
    let w = wakes s events.Request b in
    by-case (b == request_age s) (λ k. Awake s events.Request b (if k then asked_request b (request_at b s) else woken_request w (request_at b s)))
    (λ k. let q = begun-quiet s b h k in (asked-same b (request_at b s) q).0 ∙ sym (none-awake w (is_awake b s) true (wakes-none s events.Request b h q.1) q.0))
    (λ _. other-awake w (request_at b s) (λ t. wakes-waiting s events.Request b h t))
awake-after s (events.PollRequest age now) b h m =
    let a = (poll_request age now s).answer in
    by-case (b == age) (λ k. found_is is_woken (if k then polled_request age a (request_at age s) else request_at b s) ≡ (is_awake b s && not k))
    (λ _. polled-awake a age s h ∙ sym (and-false (is_awake b s)))
    (λ _. sym (and-true (is_awake b s)))
awake-after s (events.Cancel age) b h m =
    let w = wakes s (events.Cancel age) b in
    by-case (b == age) (λ k. found_is is_woken (if k then ended_request age (request_at age s) else woken_request w (request_at b s)) ≡ (w || (is_awake b s && not k)))
    (λ k. (gone-quiet age s h).0 ∙ sym (ap (λ x. x || (is_awake b s && false)) (cancel-own s age b h k) ∙ and-false (is_awake b s)))
    (λ _. other-awake w (request_at b s) (λ t. wakes-waiting s (events.Cancel age) b h t))
awake-after s (events.Ready age n) b h m =
    by-case (b == age) (λ k. found_is is_woken (if k then ended_request age (request_at age s) else request_at b s) ≡ (is_awake b s && true))
    (λ k. (gone-quiet age s h).0 ∙ sym (and-true (is_awake b s) ∙ (held-at n age b s h m k).0))
    (λ _. sym (and-true (is_awake b s)))
awake-after s (events.Failed age n) b h m =
    let w = is_oldest b s in
    by-case (b == age) (λ k. found_is is_woken (if k then failed_request age (request_at age s) else woken_request w (request_at b s)) ≡ (w || (is_awake b s && true)))
    (λ k. let q = held-at n age b s h m k in (failed-quiet age s h).0 ∙ sym (none-awake w (is_awake b s) true (wakes-none s (events.Failed age n) b h q.1) q.0))
    (λ _. other-awake w (request_at b s) (λ t. wakes-waiting s (events.Failed age n) b h t))
awake-after s (events.GiveBack n) b h m = sym (and-true (is_awake b s))
awake-after s (events.Detach n) b h m = other-awake (is_oldest b s) (request_at b s) (λ t. wakes-waiting s (events.Detach n) b h t)
awake-after s events.TakeReturned b h m = sym (and-true (is_awake b s))
awake-after s (events.Decide n facts now) b h m = other-awake (wakes s (events.Decide n facts now) b) (request_at b s) (λ t. wakes-waiting s (events.Decide n facts now) b h t)
awake-after s (events.Done n ok facts now) b h m = other-awake (wakes s (events.Done n ok facts now) b) (request_at b s) (λ t. wakes-waiting s (events.Done n ok facts now) b h t)
awake-after s (events.CheckTtl now) b h m = sym (and-true (is_awake b s))
awake-after s events.Close b h m = other-awake (waits b s) (request_at b s) (λ t. t)
awake-after s events.PollDisconnect b h m = sym (and-true (is_awake b s))

waits-after : (s : State) (e : PoolEvent) (b : ℕ) → IsSound s → may s e ≡ true → Waiting s e b (request_after s e b)
waits-after s events.Request b h m =
    let w = wakes s events.Request b in
    by-case (b == request_age s) (λ k. Waiting s events.Request b (if k then asked_request b (request_at b s) else woken_request w (request_at b s)))
    (λ k. let q = begun-quiet s b h k in (asked-same b (request_at b s) q).1 ∙ sym (none-waits (waits b s) w true q.1))
    (λ _. other-waits w (request_at b s) (λ t. wakes-waiting s events.Request b h t))
waits-after s (events.PollRequest age now) b h m =
    let a = (poll_request age now s).answer in
    let f = found-req is_free age s.requests m in
    by-case (b == age) (λ k. found_is is_waiting (if k then polled_request age a (request_at age s) else request_at b s) ≡ ((k && is_wait a) || (waits b s && true && not k)))
    (λ _. polled-waits a age s f.0 h f.1 ∙ sym (or-false (is_wait a) (waits b s && true && false) (and-false (waits b s && true))))
    (λ _. same-waits (waits b s))
  where
    or-false : (a b : Bool) → b ≡ false → (a || b) ≡ a
    or-false true b e = refl
    or-false false b e = e
waits-after s (events.Cancel age) b h m =
    let w = wakes s (events.Cancel age) b in
    by-case (b == age) (λ k. found_is is_waiting (if k then ended_request age (request_at age s) else woken_request w (request_at b s)) ≡ (waits b s && not w && not k))
    (λ k. (gone-quiet age s h).1 ∙ sym (and-false (waits b s && not w)))
    (λ _. other-waits w (request_at b s) (λ t. wakes-waiting s (events.Cancel age) b h t))
waits-after s (events.Ready age n) b h m =
    by-case (b == age) (λ k. found_is is_waiting (if k then ended_request age (request_at age s) else request_at b s) ≡ (waits b s && true && true))
    (λ k. (gone-quiet age s h).1 ∙ sym (none-waits (waits b s) false true (held-at n age b s h m k).1))
    (λ _. same-waits (waits b s))
waits-after s (events.Failed age n) b h m =
    let w = is_oldest b s in
    by-case (b == age) (λ k. found_is is_waiting (if k then failed_request age (request_at age s) else woken_request w (request_at b s)) ≡ (waits b s && not w && true))
    (λ k. (failed-quiet age s h).1 ∙ sym (none-waits (waits b s) w true (held-at n age b s h m k).1))
    (λ _. other-waits w (request_at b s) (λ t. wakes-waiting s (events.Failed age n) b h t))
waits-after s (events.GiveBack n) b h m = same-waits (waits b s)
waits-after s (events.Detach n) b h m = other-waits (is_oldest b s) (request_at b s) (λ t. wakes-waiting s (events.Detach n) b h t)
waits-after s events.TakeReturned b h m = same-waits (waits b s)
waits-after s (events.Decide n facts now) b h m = other-waits (wakes s (events.Decide n facts now) b) (request_at b s) (λ t. wakes-waiting s (events.Decide n facts now) b h t)
waits-after s (events.Done n ok facts now) b h m = other-waits (wakes s (events.Done n ok facts now) b) (request_at b s) (λ t. wakes-waiting s (events.Done n ok facts now) b h t)
waits-after s (events.CheckTtl now) b h m = same-waits (waits b s)
waits-after s events.Close b h m = other-waits (waits b s) (request_at b s) (λ t. t)
waits-after s events.PollDisconnect b h m = same-waits (waits b s)

pub woken-are : (s : State) (e : PoolEvent) (b : ℕ) → IsSound s → may s e ≡ true → is_awake b (step s e) ≡ (wakes s e b || (is_awake b s && not (is_turn_of b e)))
woken-are s e b h m = ap (found_is is_woken) (find-step s e b h m) ∙ awake-after s e b h m

pub waiting-are : (s : State) (e : PoolEvent) (b : ℕ) → IsSound s → may s e ≡ true → waits b (step s e) ≡ (begins_to_wait s e b || (waits b s && not (wakes s e b) && not (is_turn_of b e)))
waiting-are s e b h m = ap (found_is is_waiting) (find-step s e b h m) ∙ waits-after s e b h m

-- ---- the oldest one ----

pub oldest-is : (s : State) (a : ℕ) → IsSound s → oldest_waiting s ≡ Some a → waits a s ≡ true
oldest-is s a h e = oldest-waits 0 a s.requests h.rising (ap (found_is (λ x. x == a)) e ∙ eq-eqb a a refl)

above-first : (low b : ℕ) (rs : List Request) → IsRising low rs → found_is is_waiting (find (has_age b) rs) ≡ true → low ≤ b
above-first low b [] h w = absurd (cc)
above-first low b (r ∷ rs) h w =
    elim (has_age b r) as (λ t. has_age b r ≡ t → found_is is_waiting (cond t (Some r) (find (has_age b) rs)) ≡ true → low ≤ b) [
      | true ↦ λ t _. let same : r.age ≡ b = eqb-true r.age b t in omega (arith, h.0)
      | false ↦ λ t k. omega (arith, h.0, above-first (r.age + 1) b rs h.1 k)
    ] refl w

least-in : (low a b : ℕ) (rs : List Request) → IsRising low rs → oldest_in rs ≡ Some a → found_is is_waiting (find (has_age b) rs) ≡ true → a ≤ b
least-in low a b [] h e w = absurd (cc)
least-in low a b (r ∷ rs) h e w =
    elim (is_waiting r) as (λ k. is_waiting r ≡ k → option_map (λ r. r.age) (cond k (Some r) (find is_waiting rs)) ≡ Some a → a ≤ b) [
      | true ↦ λ _ q. let same : r.age ≡ a = cc in let up : IsRising r.age (r ∷ rs) = (omega arith, h.1) in omega (arith, above-first r.age b (r ∷ rs) up w)
      | false ↦ λ k q.
          elim (has_age b r) as (λ t. found_is is_waiting (cond t (Some r) (find (has_age b) rs)) ≡ true → a ≤ b) [
            | true ↦ λ t. absurd (cc)
            | false ↦ λ t. least-in (r.age + 1) a b rs h.1 q t
          ] w
    ] refl e

pub oldest-least : (s : State) (a b : ℕ) → IsSound s → oldest_waiting s ≡ Some a → waits b s ≡ true → a ≤ b
oldest-least s a b h e w = least-in 0 a b s.requests h.rising e w

none-in : (b : ℕ) (rs : List Request) → oldest_in rs ≡ None → found_is is_waiting (find (has_age b) rs) ≡ false
none-in b [] e = refl
none-in b (r ∷ rs) e =
    elim (is_waiting r) as (λ k. is_waiting r ≡ k → option_map (λ r. r.age) (cond k (Some r) (find is_waiting rs)) ≡ None → found_is is_waiting (cond (has_age b r) (Some r) (find (has_age b) rs)) ≡ false) [
      | true ↦ λ k q. absurd (cc)
      | false ↦ λ k q.
          elim (has_age b r) as (λ t. found_is is_waiting (cond t (Some r) (find (has_age b) rs)) ≡ false) [
            | true ↦ k
            | false ↦ none-in b rs q
          ]
    ] refl e

pub oldest-none : (s : State) (b : ℕ) → oldest_waiting s ≡ None → waits b s ≡ false
oldest-none s b e = none-in b s.requests e
