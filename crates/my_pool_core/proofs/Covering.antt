-- Each event of an open pool leaves it covered.
pub mod Fronts
use Rattle.std.proofs.Common.{◌≡◌, ℕ, ◌+◌, ◌-◌, ◌≤◌, ◌<◌, Bool, true, false, cond, Option, Some, None, List, [], ◌∷◌, ◌++◌, length, refl, sym, ap, ◌∙◌, arith, subst, length-append, max, inl, inr, ◌⊎◌}
use Rattle.std.specs.Prelude.{find, ◌==◌, ◌&&◌, ◌||◌, not, nat_le, nat_lt, if◌then◌else◌}
use Rattle.std.specs.List.{list_any}
use Rattle.std.proofs.lemmas.Bool.{ltb-true, ltb-false}
use Rattle.my_pool_parts.specs.declared.connection.Connection.{Connection}
use Rattle.my_pool_parts.specs.declared.connection.Place.{Place}
use Rattle.my_pool_parts.specs.declared.connection.Place.TheVariants.{Idle, Leased, Connecting, Checking, Returned, Cleaning, Resetting, Closing}
use Rattle.my_pool_parts.specs.declared.connection.Times.{Times}
use Rattle.my_pool_core.specs.declared.event.Facts.{Facts}
use Rattle.my_pool_parts.specs.declared.request.Request.{Request}
use Rattle.my_pool_parts.specs.declared.request.Standing.{Standing}
use Rattle.my_pool_parts.specs.declared.request.Standing.TheVariants.{Asks, Waits, Woken, Dials, Checks}
use Rattle.my_pool_core.specs.declared.limits.Counts.{Counts}
use Rattle.my_frame.specs.Lists.{without}
use Rattle.my_pool_parts.specs.Lists.{how_many, found_is}
use Rattle.my_pool_parts.specs.Connections.{placed, has_number, is_idle, is_idle_place, is_usable, is_left, move_to, latest_usable, unexpired, expired, retire, next_to_clean, mark_of_place, is_marked, is_resetting, is_leased}
use Rattle.my_pool_parts.specs.Requests.{asking, has_age, is_waiting, is_woken, is_free, holds, holds_number, is_dialing, standing_as, ended, wake, waits_up_to, is_queued, has_waited, is_live}
use Rattle.my_pool_core.specs.State.{State}
use Rattle.my_pool_core.specs.Events.{Polled, Decided, is_at_end, request, may_poll, queued, sought, poll_request, is_full, may_cancel, cancel_standing, cancel_found, cancel, creation_failed, may_settle, ready, failed, may_give_back, give_back, detach, found_next, take_returned, may_decide, resting, keep, decide, may_done, done, check_ttl, above_min, unestablished, dirty_return, outlived, being_reset, superfluous, cleanup_failed, let_go}
use Rattle.my_pool_core.specs.Sound.{IsSound, IsCovered, woken_first, is_unmarked}
use Rattle.my_pool_parts.proofs.Finding.{one, count-without-le, count-change, count-found, count-push, count-append, found-any, shorter-where-any}
use Rattle.my_pool_core.proofs.Kept.Fewer.{move-count}
use Rattle.my_pool_core.proofs.Kept.Quiet.{IsAt, req}
use Rattle.my_pool_core.proofs.Kept.Moving.{both, not-true, sound-retire, retire-same, retire-idle, none-expired-idle, swept, swept-same, swept-idle, all-count}
use Rattle.my_pool_core.proofs.Kept.Holding.{connecting-found, checking-found, ended-less, wake-waiting}
use Rattle.my_pool_core.proofs.Kept.{if-keeps, found-req, retired-there, next-place}
use Rattle.my_pool_core.proofs.Keeping.{moved-length, found-there, movable-there, decide-moves, done-moves, held-there}
use Rattle.my_pool_core.proofs.Covering.Fronts.{front-wake, front-ended, front-change, front-push, front-late}

-- not more idle ones, and as many connections
pub covered-same : (s : State) (ds : List Connection) (counts : Counts) (settled : Bool) → IsCovered s → how_many is_idle ds ≤ how_many is_idle s.connections → length s.connections ≤ length ds
    → IsCovered (record s { connections = ds; counts = counts; settled = settled })
covered-same s ds counts settled h idle long open_ some = omega (arith, h open_ some, idle, long)

-- a connection goes to a place where it isn't idle
pub covered-moved : (s : State) (n : ℕ) (p : Place) (counts : Counts) (settled : Bool) → IsCovered s → list_any (has_number n) s.connections ≡ true → is_idle_place p ≡ false
    → IsCovered (record s { connections = move_to n p s.connections; counts = counts; settled = settled })
covered-moved s n p counts settled h there busy =
    covered-same s (move_to n p s.connections) counts settled h
    (omega (arith, ap one busy, count-push is_idle (without (has_number n) s.connections) (placed n p), count-without-le is_idle (has_number n) s.connections))
    (omega (arith, moved-length n p s.connections there))

-- a connection is freed, after requests of which none that was woken before each waiting one is lost
pub covered-freed : (s : State) (n : ℕ) (qs : List Request) (counts : Counts) → IsCovered s → list_any (has_number n) s.connections ≡ true
    → how_many is_waiting qs ≤ how_many is_waiting s.requests → woken_first s.requests ≤ woken_first qs
    → IsCovered (record s { connections = without (has_number n) s.connections; requests = wake qs; spare = s.spare + 1; counts = counts })
covered-freed s n qs counts h there fewer front open_ some =
    let waits : 0 < how_many is_waiting qs = omega (arith, some, wake-waiting qs) in
    let before : 0 < how_many is_waiting s.requests = omega arith in
    omega (arith, h open_ before, front, front-wake qs waits, shorter-where-any (has_number n) s.connections there, count-without-le is_idle (has_number n) s.connections)

-- a closed pool is covered
pub covered-closed : (s : State) → s.closed ≡ true → IsCovered s
covered-closed s shut open_ some = absurd (cc)

-- ---- the events of connections ----

pub covered-give-back : (n : ℕ) (s : State) → IsCovered s → may_give_back n s ≡ true → IsCovered (give_back n s)
covered-give-back n s h may = covered-moved s n (Returned false) s.counts s.settled h (found-any is_leased (has_number n) s.connections may) refl

pub covered-detach : (n : ℕ) (s : State) → IsCovered s → may_give_back n s ≡ true → IsCovered (detach n s)
covered-detach n s h may = covered-freed s n s.requests s.counts h (found-any is_leased (has_number n) s.connections may) (omega arith) (omega arith)

pub covered-keep : (n : ℕ) (facts : Facts) (now : ℕ) (s : State) → IsCovered s → list_any (has_number n) s.connections ≡ true → IsCovered (keep n facts now s).state
covered-keep n facts now s h there =
    if-keeps (λ (d : Decided). IsCovered d.state) (nat_le s.limits.bound (how_many is_idle s.connections)) _ _
    (λ _. covered-moved s n Closing (superfluous s.counts) s.settled h there refl)
    (λ _ open_ some.
    let before : 0 < how_many is_waiting s.requests = omega (arith, some, wake-waiting s.requests) in
    omega (
      arith,
      h open_ before,
      front-wake s.requests before,
      moved-length n (resting facts now) s.connections there,
      count-push is_idle (without (has_number n) s.connections) (placed n (resting facts now)),
      count-without-le is_idle (has_number n) s.connections,
    ))

pub covered-decide : (n : ℕ) (facts : Facts) (now : ℕ) (s : State) → IsCovered s → may_decide n s ≡ true → IsCovered (decide n facts now s).state
covered-decide n facts now s h may =
    let there = movable-there n s (decide-moves n s may) in
    if-keeps (λ (d : Decided). IsCovered d.state) facts.link_closed _ _
    (λ _. covered-freed s n s.requests (unestablished s.counts) h there (omega arith) (omega arith))
    (λ _. if-keeps (λ (d : Decided). IsCovered d.state) facts.dirty _ _
    (λ _. covered-same s s.connections (dirty_return s.counts) s.settled h (omega arith) (omega arith))
    (λ _. if-keeps (λ (d : Decided). IsCovered d.state) (facts.expired || found_is is_marked (find (has_number n) s.connections) || s.closed) _ _
    (λ _. covered-moved s n Closing (outlived s.counts) s.settled h there refl)
    (λ _. if-keeps (λ (d : Decided). IsCovered d.state) facts.reset _ _
    (λ _. covered-moved s n Resetting (being_reset s.counts) s.settled h there refl)
    (λ _. covered-keep n facts now s h there))))

pub covered-done : (n : ℕ) (ok : Bool) (facts : Facts) (now : ℕ) (s : State) → IsCovered s → may_done n ok s ≡ true → IsCovered (done n ok facts now s).state
covered-done n ok facts now s h may =
    let there = movable-there n s (done-moves n ok s may) in
    if-keeps (λ (d : Decided). IsCovered d.state) (ok && found_is is_resetting (find (has_number n) s.connections)) _ _
    (λ _. if-keeps (λ (d : Decided). IsCovered d.state) s.closed _ _
    (λ _. covered-moved s n Closing (superfluous s.counts) s.settled h there refl)
    (λ _. covered-keep n facts now s h there))
    (λ _. covered-freed s n s.requests (if ok then s.counts else cleanup_failed s.counts) h there (omega arith) (omega arith))

pub covered-found-next : (s : State) → IsSound s → IsCovered s → (o : Option Connection) → next_to_clean s.closed s.connections ≡ o → IsCovered (found_next o s).state
covered-found-next s sound h (Some c) e =
    let f = next-place s sound c e in
    covered-moved s c.number (Cleaning (mark_of_place c.place)) s.counts s.settled h (found-there c.number s.connections (placed c.number f.0) f.1) refl
covered-found-next s sound h None e = covered-same s s.connections s.counts (s.settled || (s.closed && length s.connections == 0)) h (omega arith) (omega arith)

pub covered-take-returned : (s : State) → IsSound s → IsCovered s → IsCovered (take_returned s).state
covered-take-returned s sound h = covered-found-next s sound h (next_to_clean s.closed s.connections) refl

-- returned ones are as many as before
retire-long : (now : ℕ) (cs : List Connection) → length cs ≤ length (retire now cs)
retire-long now cs = omega (arith, all-count cs, all-count (retire now cs), retire-same (λ c. true) now (λ c i u. refl) cs)

swept-long : (now inactive many : ℕ) (cs : List Connection) → length cs ≤ length (swept now inactive many cs)
swept-long now inactive many cs = omega (arith, all-count cs, all-count (swept now inactive many cs), swept-same (λ c. true) now inactive many (λ c i. refl) cs)

pub covered-check-ttl : (now : ℕ) (s : State) → IsCovered s → IsCovered (check_ttl now s)
covered-check-ttl now s h = covered-same s (swept now s.limits.inactive (above_min s) s.connections) s.counts s.settled h (swept-idle now s.limits.inactive (above_min s) s.connections) (swept-long now s.limits.inactive (above_min s) s.connections)

-- ---- the events of requests ----

-- the connections stay, and none that was woken before each waiting one is lost
pub covered-asked : (s : State) (qs : List Request) (age : ℕ) (spare : ℕ) → IsCovered s → how_many is_waiting qs ≤ how_many is_waiting s.requests → woken_first s.requests ≤ woken_first qs
    → IsCovered (record s { requests = qs; next_age = age; spare = spare })
covered-asked s qs age spare h fewer front open_ some = omega (arith, h open_ (omega arith), front)

pub covered-request : (s : State) → IsCovered s → IsCovered (request s)
covered-request s h =
    if-keeps IsCovered (is_at_end s) _ _
    (λ _ open_ some. absurd (cc))
    (λ _. covered-asked s (s.requests ++ asking s.next_age ∷ []) (s.next_age + 1) (max s.spare (length s.requests + 1)) h (omega (arith, count-push is_waiting s.requests (asking s.next_age))) (front-push s.requests (asking s.next_age ∷ [])))

-- a request that wasn't woken ends
covered-ended : (s : State) (age : ℕ) (r : Request) → IsCovered s → find (has_age age) s.requests ≡ Some r → one (is_woken r) ≡ 0 → IsCovered (record s { requests = ended age s.requests })
covered-ended s age r h e idle = covered-asked s (ended age s.requests) s.next_age s.spare h (ended-less is_waiting age s.requests) (omega (arith, front-ended age s.requests r e))

covered-cancel-as : (age : ℕ) (s : State) (w : Bool) (st : Standing) → IsSound s → IsCovered s → IsAt age w st s.requests → IsCovered (cancel_standing st age s)
covered-cancel-as age s w Asks sound h e = covered-ended s age (req age w Asks) h e refl
covered-cancel-as age s w Waits sound h e = covered-ended s age (req age w Waits) h e refl
covered-cancel-as age s w Woken sound h e = λ open_ some.
    let waits : 0 < how_many is_waiting (ended age s.requests) = omega (arith, some, wake-waiting (ended age s.requests)) in
    let before : 0 < how_many is_waiting s.requests = omega (arith, waits, ended-less is_waiting age s.requests) in
    omega (arith, h open_ before, front-ended age s.requests (req age w Woken) e, front-wake (ended age s.requests) waits)
covered-cancel-as age s w (Dials n) sound h e =
    covered-freed s n (ended age s.requests) (creation_failed s.counts) h (found-there n s.connections (placed n Connecting) (connecting-found s age n w sound e))
    (ended-less is_waiting age s.requests) (omega (arith, front-ended age s.requests (req age w (Dials n)) e))
covered-cancel-as age s w (Checks n) sound h e =
    covered-freed s n (ended age s.requests) (creation_failed s.counts) h (found-there n s.connections (placed n Checking) (checking-found s age n w sound e))
    (ended-less is_waiting age s.requests) (omega (arith, front-ended age s.requests (req age w (Checks n)) e))

pub covered-cancel : (age : ℕ) (s : State) → IsSound s → IsCovered s → may_cancel age s ≡ true → IsCovered (cancel age s)
covered-cancel age s sound h may =
    let f = found-req is_live age s.requests may in
    let at = f.1 ∙ ap (λ r. Some r) f.3 in
    subst (λ o. IsCovered (cancel_found o age s)) (sym f.1) (covered-cancel-as age s f.0.waited f.0.standing sound h at)

-- one that holds a connection wasn't woken and doesn't wait
holder-idle : (n : ℕ) (r : Request) → holds n r ≡ true → (one (is_woken r) ≡ 0) × (one (is_waiting r) ≡ 0)
holder-idle n r e = by_standing r.age r.waited r.standing e
  where
    by_standing : (a : ℕ) (w : Bool) (st : Standing) → holds_number n st ≡ true → (one (is_woken (req a w st)) ≡ 0) × (one (is_waiting (req a w st)) ≡ 0)
    by_standing a w (Dials m) e = (refl, refl)
    by_standing a w (Checks m) e = (refl, refl)
    by_standing a w Asks e = absurd (cc)
    by_standing a w Waits e = absurd (cc)
    by_standing a w Woken e = absurd (cc)

pub covered-ready : (age n : ℕ) (s : State) → IsSound s → IsCovered s → may_settle age n s ≡ true → IsCovered (ready age n s)
covered-ready age n s sound h may =
    let f = found-req (holds n) age s.requests may in
    let idle = holder-idle n f.0 f.2 in
    let there = held-there age n s sound may in
    covered-moved (record s { requests = ended age s.requests }) n Leased s.counts s.settled (covered-ended s age f.0 h f.1 idle.0) there refl

pub covered-failed : (age n : ℕ) (s : State) → IsSound s → IsCovered s → may_settle age n s ≡ true → IsCovered (failed age n s)
covered-failed age n s sound h may =
    let f = found-req (holds n) age s.requests may in
    let idle = holder-idle n f.0 f.2 in
    let there = held-there age n s sound may in
    covered-freed s n (let_go age s.requests) (creation_failed s.counts) h there
    (if-keeps (λ qs. how_many is_waiting qs ≤ how_many is_waiting s.requests) (found_is is_dialing (find (has_age age) s.requests)) _ _
    (λ _. ended-less is_waiting age s.requests)
    (λ _. omega (arith, idle.1, count-change is_waiting (has_age age) (standing_as Asks) s.requests f.0 f.1)))
    (if-keeps (λ qs. woken_first s.requests ≤ woken_first qs) (found_is is_dialing (find (has_age age) s.requests)) _ _
    (λ _. omega (arith, idle.0, front-ended age s.requests f.0 f.1))
    (λ _. omega (arith, idle.0, front-change (has_age age) (standing_as Asks) s.requests f.0 f.1 (λ r. refl))))

-- ---- a polled request ----

-- a request that never waited wasn't woken
never-woken : (s : State) (age : ℕ) (r : Request) → IsSound s → find (has_age age) s.requests ≡ Some r → r.waited ≡ false → one (is_woken r) ≡ 0
never-woken s age r sound e never =
    let none : one (is_unmarked r) ≡ 0 = omega (arith, sound.marked, count-found is_unmarked (has_age age) s.requests r e) in
    by_standing r.age r.waited r.standing never none
  where
    by_standing : (a : ℕ) (w : Bool) (st : Standing) → w ≡ false → one (is_unmarked (req a w st)) ≡ 0 → one (is_woken (req a w st)) ≡ 0
    by_standing a w Woken never none = let seen : one (is_unmarked (req a w Woken)) ≡ 1 = ap (λ b. one (not b)) never in absurd (omega arith)
    by_standing a w Asks never none = refl
    by_standing a w Waits never none = refl
    by_standing a w (Dials n) never none = refl
    by_standing a w (Checks n) never none = refl

someone-waits : (age : ℕ) (rs : List Request) → waits_up_to age rs ≡ true → 0 < how_many is_waiting rs
someone-waits age [] e = absurd (cc)
someone-waits age (r ∷ rs) e =
    elim (is_waiting r) as (λ b. ((b && nat_le r.age age) || waits_up_to age rs) ≡ true → 0 < one b + how_many is_waiting rs) [
      | true ↦ λ k. omega arith
      | false ↦ λ k. omega (arith, someone-waits age rs k)
    ] e

at-most-one : (b : Bool) → one b ≤ 1
at-most-one true = omega arith
at-most-one false = omega arith

-- a polled request waits or ends, where one at least as old waits, or nothing is left to cover
covered-queued : (age : ℕ) (s : State) (r : Request) → IsSound s → IsCovered s → find (has_age age) s.requests ≡ Some r
    → (waits_up_to age s.requests ≡ true) ⊎ (how_many is_idle s.connections + (s.limits.max - length s.connections) ≡ 0)
    → IsCovered (queued age s).state
covered-queued age s r sound h e why =
    if-keeps (λ (d : Polled). IsCovered d.state) (not (found_is has_waited (find (has_age age) s.requests)) && is_full s.limits.waiting (how_many is_queued s.requests)) _ _
    (λ k.
    let new = not-true (found_is has_waited (find (has_age age) s.requests)) (both (not (found_is has_waited (find (has_age age) s.requests))) (is_full s.limits.waiting (how_many is_queued s.requests)) k).0 in
    let never : r.waited ≡ false = ap (found_is has_waited) (sym e) ∙ new in
    covered-ended s age r h e (never-woken s age r sound e never))
    (λ _. elim why [
      | inl late ↦ λ open_ some. omega (arith, h open_ (someone-waits age s.requests late), front-late age 0 s.requests sound.rising late)
      | inr nothing ↦ λ open_ some. omega arith
    ])

-- where none is usable, none is idle after the retired ones
none-usable : (now : ℕ) (cs : List Connection) → latest_usable now cs ≡ None → list_any (is_usable now) cs ≡ false
none-usable now [] e = refl
none-usable now (c ∷ cs) e =
    elim (list_any (is_usable now) cs) as (λ b. list_any (is_usable now) cs ≡ b → cond b (latest_usable now cs) (cond (is_usable now c) (Some c.number) None) ≡ None → (is_usable now c || b) ≡ false) [
      | true ↦ λ k l. let no = none-usable now cs l in absurd (cc)
      | false ↦ λ k l. elim (is_usable now c) as (λ b. cond b (Some c.number) None ≡ None → (b || false) ≡ false) [ true ↦ λ m. absurd (cc) | false ↦ λ m. refl ] l
    ] refl e

none-stays : (now : ℕ) (cs : List Connection) → list_any (is_usable now) cs ≡ false → how_many is_idle (unexpired now cs) ≡ 0
none-stays now [] e = refl
none-stays now (c ∷ cs) e =
    let n = neither (is_usable now c) (list_any (is_usable now) cs) e in
    let left : is_left now c cs ≡ (is_idle c && true && true) = ap (λ b. is_idle c && not b && not (list_any (is_usable now) cs)) n.0 ∙ ap (λ b. is_idle c && true && not b) n.1 in
    elim (is_idle c) as (λ b. is_left now c cs ≡ (b && true && true) → is_idle c ≡ b → how_many is_idle (cond (is_left now c cs) (unexpired now cs) (c ∷ unexpired now cs)) ≡ 0) [
      | true ↦ λ l i. ap (λ b. how_many is_idle (cond b (unexpired now cs) (c ∷ unexpired now cs))) l ∙ none-stays now cs n.1
      | false ↦ λ l i. ap (λ b. how_many is_idle (cond b (unexpired now cs) (c ∷ unexpired now cs))) l ∙ quiet (is_idle c) (how_many is_idle (unexpired now cs)) i (none-stays now cs n.1)
    ] left refl
  where
    neither : (a b : Bool) → (a || b) ≡ false → (a ≡ false) × (b ≡ false)
    neither true b e = absurd (cc)
    neither false b e = (refl, e)

    quiet : (b : Bool) (n : ℕ) → b ≡ false → n ≡ 0 → one b + n ≡ 0
    quiet true n e z = absurd (cc)
    quiet false n e z = omega arith

pub none-idle : (now : ℕ) (cs : List Connection) → latest_usable now cs ≡ None → how_many is_idle (retire now cs) ≡ 0
none-idle now cs e = omega (arith, count-append is_idle (unexpired now cs) (expired now cs), none-expired-idle now cs, none-stays now cs (none-usable now cs e))

covered-sought : (age : ℕ) (o : Option ℕ) (s : State) (r : Request) → IsSound s → IsCovered s → find (has_age age) s.requests ≡ Some r
    → ((n : ℕ) → o ≡ Some n → (times : Times) × (find (has_number n) s.connections ≡ Some (placed n (Idle times))))
    → (o ≡ None → how_many is_idle s.connections ≡ 0)
    → IsCovered (sought age o s).state
covered-sought age (Some n) s r sound h e there none = λ open_ some.
    let t = there n refl in
    let before : 0 < how_many is_waiting s.requests = omega (arith, some, count-change is_waiting (has_age age) (standing_as (Checks n)) s.requests r e) in
    omega (
      arith,
      h open_ before,
      front-change (has_age age) (standing_as (Checks n)) s.requests r e (λ r. refl),
      at-most-one (is_woken r),
      move-count is_idle n Checking (Idle t.0) s.connections t.1,
      moved-length n Checking s.connections (found-there n s.connections (placed n (Idle t.0)) t.1),
    )
covered-sought age None s r sound h e there none =
    if-keeps (λ (d : Polled). IsCovered d.state) (nat_lt (length s.connections) s.limits.max) _ _
    (λ k open_ some.
    let n = s.next_number in
    let few : length s.connections < s.limits.max = ltb-true (length s.connections) s.limits.max k in
    let before : 0 < how_many is_waiting s.requests = omega (arith, some, count-change is_waiting (has_age age) (standing_as (Dials n)) s.requests r e) in
    omega (
      arith,
      h open_ before,
      front-change (has_age age) (standing_as (Dials n)) s.requests r e (λ r. refl),
      at-most-one (is_woken r),
      few,
      length-append s.connections (placed n Connecting ∷ []),
      count-push is_idle s.connections (placed n Connecting),
    ))
    (λ k.
    let many : s.limits.max ≤ length s.connections = ltb-false (length s.connections) s.limits.max k in
    covered-queued age s r sound h e (inr (omega (arith, none refl, many))))

pub covered-poll-request : (age now : ℕ) (s : State) → IsSound s → IsCovered s → may_poll age s ≡ true → IsCovered (poll_request age now s).state
covered-poll-request age now s sound h may =
    let f = found-req is_free age s.requests may in
    if-keeps (λ (d : Polled). IsCovered d.state) s.closed _ _
    (λ shut open_ some. absurd (cc))
    (λ _. if-keeps (λ (d : Polled). IsCovered d.state) (waits_up_to age s.requests) _ _
    (λ late. covered-queued age s f.0 sound h f.1 (inl late))
    (λ _. covered-sought age (latest_usable now s.connections) (record s { connections = retire now s.connections }) f.0 (sound-retire s now sound)
    (covered-same s (retire now s.connections) s.counts s.settled h (retire-idle now s.connections) (retire-long now s.connections)) f.1
    (λ n k. retired-there now n s sound k)
    (λ k. none-idle now s.connections k)))
