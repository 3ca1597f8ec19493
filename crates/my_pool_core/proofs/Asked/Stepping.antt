-- The request of an age after any event.
use Rattle.std.proofs.Common.{◌≡◌, ℕ, ◌+◌, ◌≤◌, Bool, true, false, cond, Option, Some, None, List, [], ◌∷◌, ◌++◌, length, refl, sym, ap, ◌∙◌, arith, max, subst}
use Rattle.std.specs.Prelude.{find, option_map, ◌==◌, ◌&&◌, ◌||◌, not, nat_le, nat_lt, if◌then◌else◌}
use Rattle.std.specs.List.{list_any}
use Rattle.std.proofs.lemmas.Bool.{eqb-true, eq-eqb}
use Rattle.std.proofs.lemmas.Bool.Decides.{nat_tests}
use Rattle.my_pool_parts.specs.declared.connection.Connection.{Connection}
use Rattle.my_pool_core.specs.declared.event.Facts.{Facts}
use Rattle.my_pool_core.specs.declared.event.PollAnswer.{PollAnswer}
use Rattle.my_pool_core.specs.declared.event.PollAnswer.TheVariants.{Wait, Take, Dial, Closed, Full}
use Rattle.my_pool_core.specs.declared.event.PoolEvent.{PoolEvent}
use Rattle.my_pool_core.specs.declared.event.PoolEvent.TheVariants as events
use Rattle.my_pool_parts.specs.declared.request.Request.{Request}
use Rattle.my_pool_parts.specs.declared.request.Standing.{Standing}
use Rattle.my_pool_parts.specs.declared.request.Standing.TheVariants.{Asks, Waits, Woken, Dials, Checks}
use Rattle.my_frame.specs.Lists.{without}
use Rattle.my_pool_parts.specs.Lists.{change_first, how_many, found_is}
use Rattle.my_pool_parts.specs.Connections.{has_number, is_idle, is_marked, is_resetting, next_to_clean, retire, latest_usable}
use Rattle.my_pool_parts.specs.Requests.{last_age, asking, has_age, is_waiting, is_waiting_standing, is_asking, is_asking_standing, is_dialing, is_queued, holds, holds_number, standing_as, now_waiting, set_standing, set_waiting, ended, wake, wake_all, roused, waits_up_to, may_dial, with_last, has_waited, is_live, IsRising}
use Rattle.my_pool_core.specs.State.{State}
use Rattle.my_pool_core.specs.Events.{Polled, Decided, is_at_end, request, request_age, is_full, full_answer, queued, sought, poll_request, cancel, cancel_found, cancel_standing, may_cancel, may_settle, failed, found_next, keep, decide, done, let_go}
use Rattle.my_pool_core.specs.Steps.{may, step}
use Rattle.my_pool_core.specs.Sound.{IsSound, is_unborn, is_last_busy}
use Rattle.my_pool_core.specs.Wakes.{waits, is_oldest, hands_on, frees, wakes}
use Rattle.my_frame.proofs.Finding.{found-passes}
use Rattle.my_pool_parts.proofs.Finding.{one, count-found, count-implies}
use Rattle.my_pool_core.proofs.Kept.{if-keeps, found-req}
use Rattle.my_pool_core.proofs.Kept.Fewer.{ended-fewer}
use Rattle.my_pool_core.proofs.Kept.Moving.{both}
use Rattle.my_pool_core.proofs.Kept.Quiet.{IsAt}
use Rattle.my_pool_parts.proofs.Finding.Rising.{rising-change}
use Rattle.my_pool_core.proofs.Asked.{find-changed, find-unchanged, ended_request, find-ended, find-unended, is_oldest_in, roused_if, find-woken, find-all-woken}
use Rattle.my_pool_parts.proofs.Finding.Keyed.{unlike, none-found, find-pushed, find-new, find-nowhere, find-somewhere}

abbrev pub request_at : ℕ → State → Option Request
request_at age s = find (has_age age) s.requests

-- ---- what an event makes of the request that it is about ----

abbrev pub polled_request : ℕ → PollAnswer → Option Request → Option Request
polled_request age Wait o = option_map now_waiting o
polled_request age (Take n) o = option_map (standing_as (Checks n)) o
polled_request age (Dial n) o = option_map (standing_as (Dials n)) o
polled_request age Closed o = ended_request age o
polled_request age (Full waiting limit) o = ended_request age o

abbrev pub failed_request : ℕ → Option Request → Option Request
failed_request age o = if found_is is_dialing o then ended_request age o else option_map (standing_as Asks) o

abbrev pub asked_request : ℕ → Option Request → Option Request
asked_request age None = Some (asking age)
asked_request age (Some r) = Some r

-- and of another one
abbrev pub woken_request : Bool → Option Request → Option Request
woken_request wakes o = option_map (roused_if wakes) o

abbrev pub request_after : State → PoolEvent → ℕ → Option Request
request_after s events.Request b = if b == request_age s then asked_request b (request_at b s) else woken_request (wakes s events.Request b) (request_at b s)
request_after s (events.PollRequest age now) b = if b == age then polled_request age (poll_request age now s).answer (request_at age s) else request_at b s
request_after s (events.Cancel age) b = if b == age then ended_request age (request_at age s) else woken_request (wakes s (events.Cancel age) b) (request_at b s)
request_after s (events.Ready age n) b = if b == age then ended_request age (request_at age s) else request_at b s
request_after s (events.Failed age n) b = if b == age then failed_request age (request_at age s) else woken_request (wakes s (events.Failed age n) b) (request_at b s)
request_after s (events.GiveBack n) b = request_at b s
request_after s (events.Detach n) b = woken_request (is_oldest b s) (request_at b s)
request_after s events.TakeReturned b = request_at b s
request_after s (events.Decide n facts now) b = woken_request (wakes s (events.Decide n facts now) b) (request_at b s)
request_after s (events.Done n ok facts now) b = woken_request (wakes s (events.Done n ok facts now) b) (request_at b s)
request_after s (events.CheckTtl now) b = request_at b s
request_after s events.Close b = woken_request (waits b s) (request_at b s)
request_after s events.PollDisconnect b = request_at b s

-- ---- the request of an age, or of another one ----

either-age : (age b : ℕ) (there other : Option Request) (rs : List Request) → find (has_age age) rs ≡ there → ((b == age) ≡ false → find (has_age b) rs ≡ other) → find (has_age b) rs ≡ (if b == age then there else other)
either-age age b there other rs own others =
    elim (b == age) as (λ k. (b == age) ≡ k → find (has_age b) rs ≡ cond k there other) [
      | true ↦ λ k. ap (λ a. find (has_age a) rs) (eqb-true b age k) ∙ own
      | false ↦ λ k. others k
    ] refl

changed-at : (age b : ℕ) (f : Request → Request) → ((r : Request) → (f r).age ≡ r.age) → (rs : List Request) → find (has_age b) (change_first (has_age age) f rs) ≡ (if b == age then option_map f (find (has_age age) rs) else find (has_age b) rs)
changed-at age b f same rs = either-age age b (option_map f (find (has_age age) rs)) (find (has_age b) rs) (change_first (has_age age) f rs) (find-changed age f same rs) (λ k. find-unchanged age b f same rs k)

ended-at : (age b : ℕ) (rs : List Request) → IsRising 0 rs → find (has_age b) (ended age rs) ≡ (if b == age then ended_request age (find (has_age age) rs) else find (has_age b) rs)
ended-at age b rs h = either-age age b (ended_request age (find (has_age age) rs)) (find (has_age b) rs) (ended age rs) (find-ended age rs h) (λ k. find-unended age b rs k)

-- ---- wakes ----

pub unwoken : (o : Option Request) → woken_request false o ≡ o
unwoken None = refl
unwoken (Some r) = refl

-- one that doesn't wait isn't woken
quiet-request : (wakes : Bool) (r : Request) → is_waiting r ≡ false → roused_if wakes r ≡ r
quiet-request true r e = ap (λ b. cond b (standing_as Woken r) r) e
quiet-request false r e = refl

quiet-found : (wakes : Bool) (o : Option Request) → found_is is_waiting o ≡ false → woken_request wakes o ≡ o
quiet-found wakes None e = refl
quiet-found wakes (Some r) e = ap (λ r. Some r) (quiet-request wakes r e)

-- all that wait are woken
rouse-waiting : (r : Request) → roused r ≡ roused_if (is_waiting r) r
rouse-waiting r = elim (is_waiting r) as (λ b. cond b (standing_as Woken r) r ≡ cond b (cond b (standing_as Woken r) r) r) [ true ↦ refl | false ↦ refl ]

rouse-found : (o : Option Request) → option_map roused o ≡ woken_request (found_is is_waiting o) o
rouse-found None = refl
rouse-found (Some r) = ap (λ r. Some r) (rouse-waiting r)

-- ---- the oldest one, where one that doesn't wait ends or changes ----

oldest-left : (age : ℕ) (rs : List Request) → found_is is_waiting (find (has_age age) rs) ≡ false → find is_waiting (without (has_age age) rs) ≡ find is_waiting rs
oldest-left age [] e = refl
oldest-left age (r ∷ rs) e =
    elim (has_age age r) as (λ k. found_is is_waiting (cond k (Some r) (find (has_age age) rs)) ≡ false → find is_waiting (cond k rs (r ∷ without (has_age age) rs)) ≡ cond (is_waiting r) (Some r) (find is_waiting rs)) [
      | true ↦ λ q. sym (ap (λ w. cond w (Some r) (find is_waiting rs)) q)
      | false ↦ λ q. ap (cond (is_waiting r) (Some r)) (oldest-left age rs q)
    ] e

oldest-ended : (age : ℕ) (rs : List Request) → found_is is_waiting (find (has_age age) rs) ≡ false → find is_waiting (ended age rs) ≡ find is_waiting rs
oldest-ended age rs e =
    elim (age == last_age) as (λ t. find is_waiting (cond t rs (without (has_age age) rs)) ≡ find is_waiting rs) [
      | true ↦ refl
      | false ↦ oldest-left age rs e
    ]

oldest-changed : (age : ℕ) (f : Request → Request) → ((r : Request) → is_waiting (f r) ≡ false) → (rs : List Request) → found_is is_waiting (find (has_age age) rs) ≡ false → find is_waiting (change_first (has_age age) f rs) ≡ find is_waiting rs
oldest-changed age f quiet [] e = refl
oldest-changed age f quiet (r ∷ rs) e =
    elim (has_age age r) as (λ k. found_is is_waiting (cond k (Some r) (find (has_age age) rs)) ≡ false → find is_waiting (cond k (f r ∷ rs) (r ∷ change_first (has_age age) f rs)) ≡ cond (is_waiting r) (Some r) (find is_waiting rs)) [
      | true ↦ λ q. ap (λ w. cond w (Some (f r)) (find is_waiting rs)) (quiet r) ∙ sym (ap (λ w. cond w (Some r) (find is_waiting rs)) q)
      | false ↦ λ q. ap (cond (is_waiting r) (Some r)) (oldest-changed age f quiet rs q)
    ] e

-- a wake after a change of one that didn't wait and doesn't
woken-after : (age b : ℕ) (own : Option Request) (rs qs : List Request) → IsRising 0 qs → find is_waiting qs ≡ find is_waiting rs
    → found_is is_waiting own ≡ false → find (has_age b) qs ≡ (if b == age then own else find (has_age b) rs)
    → find (has_age b) (wake qs) ≡ (if b == age then own else woken_request (is_oldest_in b rs) (find (has_age b) rs))
woken-after age b own rs qs up oldest quiet at =
    find-woken 0 b qs up
    ∙ ap (λ o. woken_request (found_is (λ a. a == b) (option_map (λ r. r.age) o)) (find (has_age b) qs)) oldest
    ∙ ap (woken_request (is_oldest_in b rs)) at
    ∙ elim (b == age) as (λ k. woken_request (is_oldest_in b rs) (cond k own (find (has_age b) rs)) ≡ cond k own (woken_request (is_oldest_in b rs) (find (has_age b) rs))) [
      | true ↦ quiet-found (is_oldest_in b rs) own quiet
      | false ↦ refl
    ]

-- ---- a request begins ----

-- the last age's request asks
pub last-asks : (s : State) (r : Request) → IsSound s → find (has_age last_age) s.requests ≡ Some r → is_asking r ≡ true
last-asks s r h e =
    asks (is_asking r) (has_age last_age r) (omega (arith, h.last_asks, count-found is_last_busy (has_age last_age) s.requests r e)) (found-passes (has_age last_age) s.requests r e)
  where
    asks : (a b : Bool) → one (not a && b) ≡ 0 → b ≡ true → a ≡ true
    asks true b e k = refl
    asks false true e k = absurd (omega arith)
    asks false false e k = absurd (cc)

asks-quiet : (st : Standing) → is_asking_standing st ≡ true → is_waiting_standing st ≡ false
asks-quiet Asks e = refl
asks-quiet Waits e = absurd (cc)
asks-quiet Woken e = refl
asks-quiet (Dials n) e = refl
asks-quiet (Checks n) e = refl

unborn-next : (next : ℕ) → (next == last_age) ≡ false → (r : Request) → one (has_age next r) ≤ one (is_unborn next r)
unborn-next next e r =
    elim (has_age next r) as (λ b. has_age next r ≡ b → one b ≤ one (is_unborn next r)) [
      | true ↦ λ k.
          let same : r.age ≡ next = eqb-true r.age next k in
          let here : is_unborn next r ≡ true = ap (λ a. nat_le next a && not (a == last_age)) same ∙ itself next e in
          omega (arith, ap one here)
      | false ↦ λ k. omega arith
    ] refl
  where
    itself : (n : ℕ) → (n == last_age) ≡ false → (nat_le n n && not (n == last_age)) ≡ true
    itself n e = let le : nat_le n n ≡ true = grind (arith, nat_tests) in ap (λ b. b && not (n == last_age)) le ∙ ap not e

not-end : (a b c : Bool) → (a || b || c) ≡ false → a ≡ false
not-end false b c e = refl
not-end true b c e = absurd (cc)

-- the next age isn't live
pub next-unborn : (s : State) → IsSound s → is_at_end s ≡ false → find (has_age s.next_age) s.requests ≡ None
next-unborn s h e =
    let other = not-end (s.next_age == last_age) (list_any (has_age last_age) s.requests) (nat_le last_age (s.next_number + how_many may_dial s.requests)) e in
    none-found (λ (r : Request). r.age) s.next_age s.requests (omega (arith, h.born, count-implies (has_age s.next_age) (is_unborn s.next_age) (unborn-next s.next_age other) s.requests))

-- the last one, once it is live, stays as it is
last-there : (s : State) → IsSound s → (o : Option Request) → find (has_age last_age) s.requests ≡ o → option_map roused o ≡ o
last-there s h None e = refl
last-there s h (Some r) e = ap (λ r. Some r) (ap (λ b. cond b (standing_as Woken r) r) (asks-quiet r.standing (last-asks s r h e)))

last-asked : (s : State) → IsSound s → find (has_age last_age) (with_last (wake_all s.requests)) ≡ asked_request last_age (request_at last_age s)
last-asked s h =
    let ws = wake_all s.requests in
    let same : find (has_age last_age) ws ≡ request_at last_age s = find-all-woken last_age s.requests ∙ last-there s h (request_at last_age s) refl in
    elim (list_any (has_age last_age) ws) as (λ b. list_any (has_age last_age) ws ≡ b → find (has_age last_age) (cond b ws (ws ++ asking last_age ∷ [])) ≡ asked_request last_age (request_at last_age s)) [
      | true ↦ λ k. let f = find-somewhere (λ (r : Request). r.age) last_age ws k in f.1 ∙ ap (asked_request last_age) (sym f.1 ∙ same)
      | false ↦ λ k.
          let none = find-nowhere (λ (r : Request). r.age) last_age ws k in
          find-new (λ (r : Request). r.age) last_age ws [] (asking last_age) none (eq-eqb last_age last_age refl) ∙ ap (asked_request last_age) (sym none ∙ same)
    ] refl

with-last-others : (b : ℕ) (rs : List Request) → (b == last_age) ≡ false → find (has_age b) (with_last rs) ≡ find (has_age b) rs
with-last-others b rs e =
    elim (list_any (has_age last_age) rs) as (λ k. find (has_age b) (cond k rs (rs ++ asking last_age ∷ [])) ≡ find (has_age b) rs) [
      | true ↦ refl
      | false ↦ find-pushed (λ (r : Request). r.age) b rs (asking last_age) (unlike last_age b e)
    ]

request-at : (s : State) (b : ℕ) → IsSound s → find (has_age b) (request s).requests ≡ request_after s events.Request b
request-at s b h =
    let rs = s.requests in
    elim (is_at_end s) as (λ k. is_at_end s ≡ k → find (has_age b) (cond k
    (record s { closed = true; requests = with_last (wake_all rs); spare = max s.spare (length rs + 1) })
    (record s { requests = rs ++ asking s.next_age ∷ []; next_age = s.next_age + 1; spare = max s.spare (length rs + 1) })).requests
    ≡ (if b == cond k last_age s.next_age then asked_request b (request_at b s) else woken_request (k && waits b s) (request_at b s))) [
      | true ↦ λ e.
          elim (b == last_age) as (λ t. (b == last_age) ≡ t → find (has_age b) (with_last (wake_all rs)) ≡ cond t (asked_request b (request_at b s)) (woken_request (waits b s) (request_at b s))) [
            | true ↦ λ k. subst (λ a. find (has_age a) (with_last (wake_all rs)) ≡ asked_request a (request_at a s)) (sym (eqb-true b last_age k)) (last-asked s h)
            | false ↦ λ k. with-last-others b (wake_all rs) k ∙ find-all-woken b rs ∙ rouse-found (request_at b s)
          ] refl
      | false ↦ λ e.
          elim (b == s.next_age) as (λ t. (b == s.next_age) ≡ t → find (has_age b) (rs ++ asking s.next_age ∷ []) ≡ cond t (asked_request b (request_at b s)) (woken_request false (request_at b s))) [
            | true ↦ λ k.
                subst (λ a. find (has_age a) (rs ++ asking s.next_age ∷ []) ≡ asked_request a (request_at a s)) (sym (eqb-true b s.next_age k))
                (find-new (λ (r : Request). r.age) s.next_age rs [] (asking s.next_age) (next-unborn s h e) (eq-eqb s.next_age s.next_age refl) ∙ ap (asked_request s.next_age) (sym (next-unborn s h e)))
            | false ↦ λ k. find-pushed (λ (r : Request). r.age) b rs (asking s.next_age) (unlike s.next_age b k) ∙ sym (unwoken (request_at b s))
          ] refl
    ] refl

-- ---- a request is polled ----

abbrev IsPolled : ℕ → ℕ → State → Polled → Type 0
IsPolled age b s d = find (has_age b) d.state.requests ≡ (if b == age then polled_request age d.answer (request_at age s) else request_at b s)

full-request : (limit : Option ℕ) (n age b : ℕ) (s : State) (qs : List Request) → is_full limit n ≡ true
    → find (has_age b) qs ≡ (if b == age then ended_request age (request_at age s) else request_at b s)
    → find (has_age b) qs ≡ (if b == age then polled_request age (full_answer limit n) (request_at age s) else request_at b s)
full-request None n age b s qs e k = absurd (cc)
full-request (Some limit) n age b s qs e k = k

queued-at : (age b : ℕ) (s t : State) → IsSound s → t.requests ≡ s.requests → IsPolled age b s (queued age t)
queued-at age b s t h e =
    if-keeps (λ (d : Polled). IsPolled age b s d) (not (found_is has_waited (find (has_age age) t.requests)) && is_full t.limits.waiting (how_many is_queued t.requests)) _ _
    (λ k. full-request t.limits.waiting (how_many is_queued t.requests) age b s (ended age t.requests) (both (not (found_is has_waited (find (has_age age) t.requests))) (is_full t.limits.waiting (how_many is_queued t.requests)) k).1
    (ap (λ rs. find (has_age b) (ended age rs)) e ∙ ended-at age b s.requests h.rising))
    (λ _. ap (λ rs. find (has_age b) (set_waiting age rs)) e ∙ changed-at age b now_waiting (λ r. refl) s.requests)

sought-at : (age now b : ℕ) (s : State) (o : Option ℕ) → IsSound s → IsPolled age b s (sought age o (record s { connections = retire now s.connections }))
sought-at age now b s (Some n) h = changed-at age b (standing_as (Checks n)) (λ r. refl) s.requests
sought-at age now b s None h =
    if-keeps (λ (d : Polled). IsPolled age b s d) (nat_lt (length (retire now s.connections)) s.limits.max) _ _
    (λ _. changed-at age b (standing_as (Dials s.next_number)) (λ r. refl) s.requests)
    (λ _. queued-at age b s (record s { connections = retire now s.connections }) h refl)

poll-at : (age now b : ℕ) (s : State) → IsSound s → IsPolled age b s (poll_request age now s)
poll-at age now b s h =
    if-keeps (λ (d : Polled). IsPolled age b s d) s.closed _ _
    (λ _. ended-at age b s.requests h.rising)
    (λ _. if-keeps (λ (d : Polled). IsPolled age b s d) (waits_up_to age s.requests) _ _
    (λ _. queued-at age b s s h refl)
    (λ _. sought-at age now b s (latest_usable now s.connections) h))

-- ---- a request is given up, or its connection isn't good ----

-- what an ended request that didn't wait leaves doesn't wait
ended-quiet : (age : ℕ) (o : Option Request) → found_is is_waiting o ≡ false → found_is is_waiting (ended_request age o) ≡ false
ended-quiet age o e = elim (age == last_age) as (λ t. found_is is_waiting (cond t o None) ≡ false) [ true ↦ e | false ↦ refl ]

rising-ended : (age : ℕ) (rs : List Request) → IsRising 0 rs → IsRising 0 (ended age rs)
rising-ended age rs h = (ended-fewer age rs).rising h

woken-ended : (age b : ℕ) (s : State) → IsSound s → found_is is_waiting (request_at age s) ≡ false
    → find (has_age b) (wake (ended age s.requests)) ≡ (if b == age then ended_request age (request_at age s) else woken_request (is_oldest b s) (request_at b s))
woken-ended age b s h quiet =
    woken-after age b (ended_request age (request_at age s)) s.requests (ended age s.requests) (rising-ended age s.requests h.rising) (oldest-ended age s.requests quiet)
    (ended-quiet age (request_at age s) quiet) (ended-at age b s.requests h.rising)

abbrev IsCancelled : ℕ → ℕ → State → Standing → State → Type 0
IsCancelled age b s st t = find (has_age b) t.requests ≡ (if b == age then ended_request age (request_at age s) else woken_request (hands_on st && is_oldest b s) (request_at b s))

cancel-quiet : (age b : ℕ) (s : State) → IsSound s → find (has_age b) (ended age s.requests) ≡ (if b == age then ended_request age (request_at age s) else woken_request false (request_at b s))
cancel-quiet age b s h = ended-at age b s.requests h.rising ∙ ap (λ o. if b == age then ended_request age (request_at age s) else o) (sym (unwoken (request_at b s)))

cancel-by : (st : Standing) (w : Bool) (age b : ℕ) (s : State) → IsSound s → IsAt age w st s.requests → IsCancelled age b s st (cancel_standing st age s)
cancel-by Asks w age b s h e = cancel-quiet age b s h
cancel-by Waits w age b s h e = cancel-quiet age b s h
cancel-by Woken w age b s h e = woken-ended age b s h (ap (found_is is_waiting) e)
cancel-by (Dials n) w age b s h e = woken-ended age b s h (ap (found_is is_waiting) e)
cancel-by (Checks n) w age b s h e = woken-ended age b s h (ap (found_is is_waiting) e)

cancel-at : (age b : ℕ) (s : State) → IsSound s → may_cancel age s ≡ true → find (has_age b) (cancel age s).requests ≡ request_after s (events.Cancel age) b
cancel-at age b s h may =
    let f = found-req is_live age s.requests may in
    ap (λ o. find (has_age b) (cancel_found o age s).requests) f.1
    ∙ cancel-by f.0.standing f.0.waited age b s h (f.1 ∙ ap (λ r. Some r) f.3)
    ∙ ap (λ o. if b == age then ended_request age (request_at age s) else woken_request (found_is (λ r. hands_on r.standing) o && is_oldest b s) (request_at b s)) (sym f.1)

pub holds-quiet : (n : ℕ) (st : Standing) → holds_number n st ≡ true → is_waiting_standing st ≡ false
holds-quiet n Asks e = refl
holds-quiet n Waits e = absurd (cc)
holds-quiet n Woken e = refl
holds-quiet n (Dials m) e = refl
holds-quiet n (Checks m) e = refl

let-go-at : (age b : ℕ) (s : State) → IsSound s → found_is is_waiting (request_at age s) ≡ false
    → find (has_age b) (wake (let_go age s.requests)) ≡ (if b == age then failed_request age (request_at age s) else woken_request (is_oldest b s) (request_at b s))
let-go-at age b s h quiet =
    elim (found_is is_dialing (request_at age s)) as (λ k. find (has_age b) (wake (cond k (ended age s.requests) (set_standing age Asks s.requests))) ≡ (if b == age then cond k (ended_request age (request_at age s)) (option_map (standing_as Asks) (request_at age s)) else woken_request (is_oldest b s) (request_at b s))) [
      | true ↦ woken-ended age b s h quiet
      | false ↦
          woken-after age b (option_map (standing_as Asks) (request_at age s)) s.requests (set_standing age Asks s.requests)
          (rising-change (has_age age) (standing_as Asks) (λ r. refl) 0 s.requests h.rising) (oldest-changed age (standing_as Asks) (λ r. refl) s.requests quiet)
          (asks-found (request_at age s)) (changed-at age b (standing_as Asks) (λ r. refl) s.requests)
    ]
  where
    asks-found : (o : Option Request) → found_is is_waiting (option_map (standing_as Asks) o) ≡ false
    asks-found None = refl
    asks-found (Some r) = refl

failed-at : (age n b : ℕ) (s : State) → IsSound s → may_settle age n s ≡ true → find (has_age b) (failed age n s).requests ≡ request_after s (events.Failed age n) b
failed-at age n b s h may =
    let f = found-req (holds n) age s.requests may in
    let-go-at age b s h (ap (found_is is_waiting) f.1 ∙ holds-quiet n f.0.standing f.2)

-- ---- the events of a connection ----

found-next-at : (o : Option Connection) (b : ℕ) (s : State) → find (has_age b) (found_next o s).state.requests ≡ request_at b s
found-next-at None b s = refl
found-next-at (Some c) b s = refl

abbrev IsDecided : ℕ → State → Decided → Type 0
IsDecided b s d = find (has_age b) d.state.requests ≡ woken_request (frees d.answer && is_oldest b s) (request_at b s)

keep-at : (b n : ℕ) (facts : Facts) (now : ℕ) (s : State) → IsSound s → IsDecided b s (keep n facts now s)
keep-at b n facts now s h =
    if-keeps (λ (d : Decided). IsDecided b s d) (nat_le s.limits.bound (how_many is_idle s.connections)) _ _
    (λ _. sym (unwoken (request_at b s)))
    (λ _. find-woken 0 b s.requests h.rising)

decide-at : (b n : ℕ) (facts : Facts) (now : ℕ) (s : State) → IsSound s → IsDecided b s (decide n facts now s)
decide-at b n facts now s h =
    if-keeps (λ (d : Decided). IsDecided b s d) facts.link_closed _ _
    (λ _. find-woken 0 b s.requests h.rising)
    (λ _. if-keeps (λ (d : Decided). IsDecided b s d) facts.dirty _ _
    (λ _. sym (unwoken (request_at b s)))
    (λ _. if-keeps (λ (d : Decided). IsDecided b s d) (facts.expired || found_is is_marked (find (has_number n) s.connections) || s.closed) _ _
    (λ _. sym (unwoken (request_at b s)))
    (λ _. if-keeps (λ (d : Decided). IsDecided b s d) facts.reset _ _
    (λ _. sym (unwoken (request_at b s)))
    (λ _. keep-at b n facts now s h))))

done-at : (b n : ℕ) (ok : Bool) (facts : Facts) (now : ℕ) (s : State) → IsSound s → IsDecided b s (done n ok facts now s)
done-at b n ok facts now s h =
    if-keeps (λ (d : Decided). IsDecided b s d) (ok && found_is is_resetting (find (has_number n) s.connections)) _ _
    (λ _. if-keeps (λ (d : Decided). IsDecided b s d) s.closed _ _
    (λ _. sym (unwoken (request_at b s)))
    (λ _. keep-at b n facts now s h))
    (λ _. find-woken 0 b s.requests h.rising)

-- ---- any event ----

pub find-step : (s : State) (e : PoolEvent) (b : ℕ) → IsSound s → may s e ≡ true → find (has_age b) (step s e).requests ≡ request_after s e b
find-step s events.Request b h m = request-at s b h
find-step s (events.PollRequest age now) b h m = poll-at age now b s h
find-step s (events.Cancel age) b h m = cancel-at age b s h m
find-step s (events.Ready age n) b h m = ended-at age b s.requests h.rising
find-step s (events.Failed age n) b h m = failed-at age n b s h m
find-step s (events.GiveBack n) b h m = refl
find-step s (events.Detach n) b h m = find-woken 0 b s.requests h.rising
find-step s events.TakeReturned b h m = found-next-at (next_to_clean s.closed s.connections) b s
find-step s (events.Decide n facts now) b h m = decide-at b n facts now s h
find-step s (events.Done n ok facts now) b h m = done-at b n ok facts now s h
find-step s (events.CheckTtl now) b h m = refl
find-step s events.Close b h m = find-all-woken b s.requests ∙ rouse-found (request_at b s)
find-step s events.PollDisconnect b h m = refl
