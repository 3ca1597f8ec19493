-- Each event keeps what a pool keeps: a sound state, and room for it.
use Rattle.std.proofs.Common.{◌≡◌, ℕ, ◌+◌, ◌≤◌, ◌<◌, Bool, true, false, Option, Some, None, List, [], ◌∷◌, ◌++◌, length, refl, sym, ap, ◌∙◌, arith, subst, max, length-append}
use Rattle.std.specs.Prelude.{find, if◌then◌else◌, not, ◌||◌, ◌&&◌, IfSome}
use Rattle.std.proofs.lemmas.Bool.{eqb-true}
use Rattle.std.specs.List.{list_any}
use Rattle.my_pool_parts.specs.declared.connection.Connection.{Connection}
use Rattle.my_pool_parts.specs.declared.connection.Place.{Place}
use Rattle.my_pool_parts.specs.declared.connection.Place.TheVariants.{Idle, Leased, Connecting, Checking, Returned, Cleaning, Resetting, Closing}
use Rattle.my_pool_parts.specs.declared.connection.Times.{Times}
use Rattle.my_pool_core.specs.declared.limits.Counts.{Counts}
use Rattle.my_pool_core.specs.declared.event.Facts.{Facts}
use Rattle.my_pool_parts.specs.declared.request.Request.{Request}
use Rattle.my_pool_parts.specs.declared.request.Standing.{Standing}
use Rattle.my_pool_parts.specs.declared.request.Standing.TheVariants.{Asks, Waits, Woken, Dials, Checks}
use Rattle.my_frame.specs.Lists.{without}
use Rattle.my_pool_parts.specs.Lists.{how_many, found_is}
use Rattle.my_pool_parts.specs.Connections.{has_number, is_leased, is_idle, is_idle_place, is_connecting_place, is_checking_place, is_cleaning_place, is_resetting_place, is_closing_place, returned, placed, move_to, is_cleaning, next_to_clean, mark_of_place, latest_usable, retire}
use Rattle.my_pool_parts.specs.Requests.{asking, last_age, may_dial, roused, standing_as, has_age, holds, holds_number, is_free, ended, set_waiting, wake, wake_all, waits_up_to, with_last, IsRising}
use Rattle.my_pool_core.specs.State.{State}
use Rattle.my_pool_core.specs.Events.{poll_request, sought, is_at_end, request, dialed, taken, above_min, may_move, freed, moved, resting, kept, is_unheld, may_poll, may_cancel, cancel, cancel_found, cancel_standing, may_settle, ready, failed, may_give_back, give_back, close, check_ttl, may_decide, may_done, may_finish}
use Rattle.my_pool_core.specs.Sound.{IsSound, IsKept, is_dialer, is_unnumbered}
use Rattle.my_pool_core.specs.State.{one_more}
use Rattle.std.specs.Prelude.{nat_le, nat_lt, ◌==◌}
use Rattle.std.proofs.Common.{◌-◌, ◌^◌}
use Rattle.std.proofs.lemmas.Bool.Decides.{nat_tests}
use Rattle.my_pool_parts.proofs.Queue.Waking.{rising-awake, wake-all-last}
use Rattle.my_frame.proofs.Finding.{found-passes}
use Rattle.my_pool_parts.proofs.Finding.{one, count-change, count-implies, count-map-same, count-push, count-found, found-any, shorter-where-any}
use Rattle.my_pool_core.proofs.Kept.Opening.{sound-close, sound-request, sound-ended, sound-waits, sound-takes, sound-dials, open-not-last, free-dialer}
use Rattle.my_pool_core.proofs.Kept.Moving.{retire-fewer, sound-retire, swept-fewer}
use Rattle.my_pool_core.proofs.Kept.{sound-cancel, sound-ready, sound-failed, sound-give-back, sound-freed, sound-move-on, sound-rested, IsUnheld, sound-check-ttl, sound-found-next, next-place, none-ended, retired-there, found-req, found-at}
use Rattle.my_pool_core.proofs.Kept.Holding.{connecting-found, checking-found}
use Rattle.my_pool_core.proofs.Kept.Quiet.{IsAt, req}

-- the connection of a number moves
pub moved-length : (n : ℕ) (p : Place) (cs : List Connection) → list_any (has_number n) cs ≡ true → length (move_to n p cs) ≡ length cs
moved-length n p cs e = omega (arith, length-append (without (has_number n) cs) (record { number = n; place = p } ∷ []), shorter-where-any (has_number n) cs e)

pub found-there : (n : ℕ) (cs : List Connection) (c : Connection) → find (has_number n) cs ≡ Some c → list_any (has_number n) cs ≡ true
found-there n cs c e = found-any (λ _. true) (has_number n) cs (ap (found_is (λ _. true)) e)

-- the room stays
-- the state as though as many numbers were left as requests may dial
abbrev pub low : State → State
low s = record s { next_number = last_age - how_many is_dialer s.requests }

unnumbered-less : (m n : ℕ) → m ≤ n → (c : Connection) → one (is_unnumbered n c) ≤ one (is_unnumbered m c)
unnumbered-less m n le c = at_number (nat_le n c.number) (nat_le m c.number) refl refl
  where
    at_number : (a b : Bool) → nat_le n c.number ≡ a → nat_le m c.number ≡ b → one a ≤ one b
    at_number false b e f = omega arith
    at_number true true e f = omega arith
    at_number true false e f = absurd (grind (arith, nat_tests))

pub low-sound : (s : State) → IsSound s → IsSound (low s)
low-sound s h = record {
  few = h.few;
  few_idle = h.few_idle;
  once = h.once;
  numbered = omega (arith, h.numbered, count-implies (is_unnumbered (last_age - how_many is_dialer s.requests)) (is_unnumbered s.next_number) (λ c. unnumbered-less s.next_number (last_age - how_many is_dialer s.requests) (omega (arith, h.numbers_left)) c) s.connections);
  rising = h.rising;
  ages_left = h.ages_left;
  born = h.born;
  made = h.made;
  looked_at = h.looked_at;
  marked = h.marked;
  numbers_left = omega (arith, h.numbers_left);
  room = h.room;
  none_waits = h.none_waits;
  settled = h.settled;
  last_closes = h.last_closes;
  last_asks = h.last_asks;
}

-- the room stays, and no more requests may dial: the second state is sound with as few numbers as the first one needs
pub kept-as : (s t u : State) (old new k l : ℕ) → IsKept s old k → IsSound t → IsSound (record t { next_number = last_age - how_many is_dialer s.requests }) → u ≡ t → length t.connections + t.spare ≤ length s.connections + s.spare → old ≤ new → l ≡ k → IsKept u new l
kept-as s t u old new k l h sound lowered same room le eq = subst (λ v. IsKept v new l) (sym same) (record {
  sound = sound;
  reserved = omega (arith, h.reserved, room, le);
  expected = omega (arith, h.expected, lowered.numbers_left, h.sound.numbers_left, eq);
})

pub kept-give-back : (n : ℕ) (s u : State) (old new k l : ℕ) → IsKept s old k → may_give_back n s ≡ true → u ≡ give_back n s → old ≤ new → l ≡ k → IsKept u new l
kept-give-back n s u old new k l h may same le eq =
    let there = found-any is_leased (has_number n) s.connections may in
    kept-as s (give_back n s) u old new k l h (sound-give-back n s h.sound may) (sound-give-back n (low s) (low-sound s h.sound) may) same (omega (arith, moved-length n (returned false) s.connections there)) le eq

pub kept-close : (s u : State) (old new k l : ℕ) → IsKept s old k → u ≡ close s → old ≤ new → l ≡ k → IsKept u new l
kept-close s u old new k l h same le eq = kept-as s (close s) u old new k l h (sound-close s h.sound) (sound-close (low s) (low-sound s h.sound)) same (omega arith) le eq

unheld-is : (a b : Bool) → not (a || b) ≡ true → (a ≡ false) × (b ≡ false)
unheld-is false false e = (refl, refl)
unheld-is true b e = absurd (cc)
unheld-is false true e = absurd (cc)

-- the place of a connection that may move
pub movable : (n : ℕ) (s : State) → may_move n s ≡ true → (p : Place) × (find (has_number n) s.connections ≡ Some (placed n p)) × IsUnheld p
movable n s may =
    let f = found-at (λ p. not (is_connecting_place p || is_checking_place p)) n s.connections may in
    (f.0, f.1, unheld-is (is_connecting_place f.0) (is_checking_place f.0) f.2)

pub movable-there : (n : ℕ) (s : State) → may_move n s ≡ true → list_any (has_number n) s.connections ≡ true
movable-there n s may = found-any is_unheld (has_number n) s.connections may

pub kept-freed : (n : ℕ) (s u : State) (old new k l : ℕ) → IsKept s old k → may_move n s ≡ true → u ≡ freed n s.requests s → old ≤ new → l ≡ k → IsKept u new l
kept-freed n s u old new k l h may same le eq =
    let m = movable n s may in
    kept-as s (freed n s.requests s) u old new k l h (sound-freed s n m.0 s.counts h.sound m.1 m.2) (sound-freed (low s) n m.0 s.counts (low-sound s h.sound) m.1 m.2) same (omega (arith, shorter-where-any (has_number n) s.connections (movable-there n s may))) le eq

pub kept-moved : (n : ℕ) (p : Place) (counts : Counts) (s u : State) (old new k l : ℕ) → IsKept s old k → may_move n s ≡ true → IsUnheld p → is_idle_place p ≡ false
    → u ≡ record s { connections = move_to n p s.connections; counts = counts } → old ≤ new → l ≡ k → IsKept u new l
kept-moved n p counts s u old new k l h may is busy same le eq =
    let m = movable n s may in
    kept-as s (record s { connections = move_to n p s.connections; counts = counts }) u old new k l h (sound-move-on s n p m.0 counts h.sound m.1 m.2 is busy) (sound-move-on (low s) n p m.0 counts (low-sound s h.sound) m.1 m.2 is busy) same (omega (arith, moved-length n p s.connections (movable-there n s may))) le eq

pub kept-rested : (n : ℕ) (facts : Facts) (now : ℕ) (s u : State) (old new k l : ℕ) → IsKept s old k → may_move n s ≡ true → how_many is_idle s.connections < s.limits.bound
    → u ≡ record (moved n (resting facts now) s) { requests = wake s.requests; counts = kept s.counts } → old ≤ new → l ≡ k → IsKept u new l
kept-rested n facts now s u old new k l h may room same le eq =
    let m = movable n s may in
    kept-as s (record (moved n (resting facts now) s) { requests = wake s.requests; counts = kept s.counts }) u old new k l h
    (sound-rested n facts now s m.0 h.sound m.1 m.2 room) (sound-rested n facts now (low s) m.0 (low-sound s h.sound) m.1 m.2 room) same (omega (arith, moved-length n (resting facts now) s.connections (movable-there n s may))) le eq

-- ---- requests ----

-- the connection that a request holds is there
pub held-there : (age n : ℕ) (s : State) → IsSound s → may_settle age n s ≡ true → list_any (has_number n) s.connections ≡ true
held-there age n s h may =
    let f = found-req (holds n) age s.requests may in
    by_standing f.0.waited f.0.standing (f.1 ∙ ap (λ r. Some r) f.3) f.2
  where
    by_standing : (w : Bool) (st : Standing) → IsAt age w st s.requests → holds_number n st ≡ true → list_any (has_number n) s.connections ≡ true
    by_standing w (Dials m) e k =
        let same : m ≡ n = eqb-true m n k in
        found-there n s.connections (placed n Connecting) (connecting-found s age n w h (e ∙ ap (λ x. Some (req age w (Dials x))) same))
    by_standing w (Checks m) e k =
        let same : m ≡ n = eqb-true m n k in
        found-there n s.connections (placed n Checking) (checking-found s age n w h (e ∙ ap (λ x. Some (req age w (Checks x))) same))
    by_standing w Asks e k = absurd (cc)
    by_standing w Waits e k = absurd (cc)
    by_standing w Woken e k = absurd (cc)

pub kept-ready : (age n : ℕ) (s u : State) (old new k l : ℕ) → IsKept s old k → may_settle age n s ≡ true → u ≡ ready age n s → old ≤ new → l ≡ k → IsKept u new l
kept-ready age n s u old new k l h may same le eq =
    kept-as s (ready age n s) u old new k l h (sound-ready age n s h.sound may) (sound-ready age n (low s) (low-sound s h.sound) may) same (omega (arith, moved-length n Leased s.connections (held-there age n s h.sound may))) le eq

pub kept-failed : (age n : ℕ) (s u : State) (old new k l : ℕ) → IsKept s old k → may_settle age n s ≡ true → u ≡ failed age n s → old ≤ new → l ≡ k → IsKept u new l
kept-failed age n s u old new k l h may same le eq =
    kept-as s (failed age n s) u old new k l h (sound-failed age n s h.sound may) (sound-failed age n (low s) (low-sound s h.sound) may) same (omega (arith, shorter-where-any (has_number n) s.connections (held-there age n s h.sound may))) le eq

-- no connection moves
pub kept-asked : (s t u : State) (old new k l : ℕ) → IsKept s old k → IsSound t → IsSound (record t { next_number = last_age - how_many is_dialer s.requests }) → u ≡ t → t.connections ≡ s.connections → t.spare ≡ s.spare → old ≤ new → l ≡ k → IsKept u new l
kept-asked s t u old new k l h sound lowered same cs spare le eq = kept-as s t u old new k l h sound lowered same (omega (arith, ap length cs, spare)) le eq

pub cancel-is : (age : ℕ) (s : State) (r : Request) → find (has_age age) s.requests ≡ Some r → cancel age s ≡ cancel_standing r.standing age s
cancel-is age s r e = ap (λ o. cancel_found o age s) e

low-cancel : (st : Standing) (age : ℕ) (s : State) → IsSound (cancel_standing st age (low s)) → IsSound (record (cancel_standing st age s) { next_number = last_age - how_many is_dialer s.requests })
low-cancel Asks age s h = h
low-cancel Waits age s h = h
low-cancel Woken age s h = h
low-cancel (Dials n) age s h = h
low-cancel (Checks n) age s h = h

pub kept-cancel : (age : ℕ) (s u : State) (old new k l : ℕ) (r : Request) (st : Standing) → IsKept s old k → may_cancel age s ≡ true → find (has_age age) s.requests ≡ Some r → r.standing ≡ st → u ≡ cancel_standing st age s → old ≤ new → l ≡ k → IsKept u new l
kept-cancel age s u old new k l r st h may e is same le eq =
    let sound = subst (λ t. IsSound t) (cancel-is age s r e ∙ ap (λ x. cancel_standing x age s) is) (sound-cancel age s h.sound may) in
    let at = e ∙ ap (λ a. Some (req a r.waited r.standing)) (eqb-true r.age age (found-passes (has_age age) s.requests r e)) ∙ ap (λ x. Some (req age r.waited x)) is in
    let lowered = subst (λ t. IsSound t) (cancel-is age (low s) r e ∙ ap (λ x. cancel_standing x age (low s)) is) (sound-cancel age (low s) (low-sound s h.sound) may) in
    kept-as s (cancel_standing st age s) u old new k l h sound (low-cancel st age s lowered) same (room st at) le eq
  where
    room : (st : Standing) → IsAt age r.waited st s.requests → length (cancel_standing st age s).connections + (cancel_standing st age s).spare ≤ length s.connections + s.spare
    room Asks at = omega arith
    room Waits at = omega arith
    room Woken at = omega arith
    room (Dials n) at = omega (arith, shorter-where-any (has_number n) s.connections (found-there n s.connections (placed n Connecting) (connecting-found s age n r.waited h.sound at)))
    room (Checks n) at = omega (arith, shorter-where-any (has_number n) s.connections (found-there n s.connections (placed n Checking) (checking-found s age n r.waited h.sound at)))

-- ---- a polled request ----

pub kept-ended : (age : ℕ) (s u : State) (old new k l : ℕ) → IsKept s old k → may_poll age s ≡ true → u ≡ record s { requests = ended age s.requests } → old ≤ new → l ≡ k → IsKept u new l
kept-ended age s u old new k l h may same le eq =
    let f = found-req is_free age s.requests may in
    kept-asked s (record s { requests = ended age s.requests }) u old new k l h (sound-ended s age f.0 h.sound f.1 f.2 (none-ended s age h.sound)) (sound-ended (low s) age f.0 (low-sound s h.sound) f.1 f.2 (none-ended s age h.sound)) same refl refl le eq

pub kept-waits : (age : ℕ) (s u : State) (old new k l : ℕ) → IsKept s old k → may_poll age s ≡ true → s.closed ≡ false → u ≡ record s { requests = set_waiting age s.requests } → old ≤ new → l ≡ k → IsKept u new l
kept-waits age s u old new k l h may open_ same le eq =
    let f = found-req is_free age s.requests may in
    kept-asked s (record s { requests = set_waiting age s.requests }) u old new k l h (sound-waits s age f.0 h.sound open_ f.1 f.2) (sound-waits (low s) age f.0 (low-sound s h.sound) open_ f.1 f.2) same refl refl le eq

-- there is room for one more where a request without a connection is live
pub dial-room : (age : ℕ) (s : State) → IsSound s → may_poll age s ≡ true → s.closed ≡ false → 0 < s.spare
dial-room age s h may open_ =
    let f = found-req is_free age s.requests may in
    let other = open-not-last s age f.0 h open_ f.1 in
    let dialer : one (is_dialer f.0) ≡ 1 = free-dialer f.0 f.2 ∙ ap (λ b. one (not b)) other in
    omega (arith, h.room, dialer, count-found is_dialer (has_age age) s.requests f.0 f.1)

pub dial-below : (age : ℕ) (s : State) → IsSound s → may_poll age s ≡ true → s.closed ≡ false → s.next_number < last_age
dial-below age s h may open_ =
    let f = found-req is_free age s.requests may in
    let other = open-not-last s age f.0 h open_ f.1 in
    let dialer : one (is_dialer f.0) ≡ 1 = free-dialer f.0 f.2 ∙ ap (λ b. one (not b)) other in
    omega (arith, h.numbers_left, dialer, count-found is_dialer (has_age age) s.requests f.0 f.1)

-- and a number that has its memory
pub dial-number : (age : ℕ) (s : State) (coming : ℕ) → IsSound s → how_many is_dialer s.requests ≤ coming → may_poll age s ≡ true → s.closed ≡ false → 0 < coming
dial-number age s coming h expected may open_ =
    let f = found-req is_free age s.requests may in
    let other = open-not-last s age f.0 h open_ f.1 in
    let dialer : one (is_dialer f.0) ≡ 1 = free-dialer f.0 f.2 ∙ ap (λ b. one (not b)) other in
    omega (arith, expected, dialer, count-found is_dialer (has_age age) s.requests f.0 f.1)

less : (m n : ℕ) → m < n → nat_lt m n ≡ true
less m n lt = grind (arith, nat_tests)

-- the next number is raised
pub raised : (n : ℕ) → n < last_age → one_more n ≡ n + 1
raised n lt = ap (λ b. if b then n + 1 else n) (less n (2 ^ 64 - 1) lt)

pub kept-dialed : (age : ℕ) (s u : State) (old new k l : ℕ) → IsKept s old k → may_poll age s ≡ true → s.closed ≡ false → length s.connections < s.limits.max → u ≡ (dialed age s).state → old ≤ new → l ≡ k - 1 → IsKept u new l
kept-dialed age s u old new k l h may open_ few same le eq =
    let f = found-req is_free age s.requests may in
    let other = open-not-last s age f.0 h.sound open_ f.1 in
    let dialer : one (is_dialer f.0) ≡ 1 = free-dialer f.0 f.2 ∙ ap (λ b. one (not b)) other in
    let left = count-change is_dialer (has_age age) (standing_as (Dials s.next_number)) s.requests f.0 f.1 in
    subst (λ v. IsKept v new l) (sym same) (record {
      sound = sound-dials s age f.0 h.sound open_ f.1 f.2 few;
      reserved = omega (arith, h.reserved, le, length-append s.connections (placed s.next_number Connecting ∷ []), dial-room age s h.sound may open_);
      expected = omega (arith, h.expected, dialer, left, eq);
    })

idle-times : (p : Place) → is_idle_place p ≡ true → (times : Times) × (p ≡ Idle times)
idle-times (Idle times) e = (times, refl)
idle-times Leased e = absurd (cc)
idle-times Connecting e = absurd (cc)
idle-times Checking e = absurd (cc)
idle-times (Returned marked) e = absurd (cc)
idle-times (Cleaning marked) e = absurd (cc)
idle-times Resetting e = absurd (cc)
idle-times Closing e = absurd (cc)

pub kept-taken : (age n : ℕ) (s u : State) (old new k l : ℕ) → IsKept s old k → may_poll age s ≡ true → s.closed ≡ false → found_is is_idle (find (has_number n) s.connections) ≡ true → u ≡ (taken age n s).state → old ≤ new → l ≡ k → IsKept u new l
kept-taken age n s u old new k l h may open_ idle same le eq =
    let f = found-req is_free age s.requests may in
    let p = found-at is_idle_place n s.connections idle in
    let t = idle-times p.0 p.2 in
    let at = p.1 ∙ ap (λ q. Some (placed n q)) t.1 in
    kept-as s (taken age n s).state u old new k l h (sound-takes s age n f.0 t.0 h.sound open_ f.1 f.2 at) (sound-takes (low s) age n f.0 t.0 (low-sound s h.sound) open_ f.1 f.2 at) same
    (omega (arith, moved-length n Checking s.connections (found-any is_idle (has_number n) s.connections idle))) le eq

pub kept-retired : (now : ℕ) (s u : State) (old new k l : ℕ) → IsKept s old k → u ≡ record s { connections = retire now s.connections } → old ≤ new → l ≡ k → IsKept u new l
kept-retired now s u old new k l h same le eq =
    let fewer = retire-fewer now s.connections in
    kept-as s (record s { connections = retire now s.connections }) u old new k l h (sound-retire s now h.sound) (sound-retire (low s) now (low-sound s h.sound)) same (omega (arith, fewer.shorter)) le eq

pub retired-idle : (now n : ℕ) (s : State) → IsSound s → latest_usable now s.connections ≡ Some n → found_is is_idle (find (has_number n) (retire now s.connections)) ≡ true
retired-idle now n s h e = let t = retired-there now n s h e in ap (found_is is_idle) t.1

pub kept-swept : (now : ℕ) (s u : State) (old new k l : ℕ) → IsKept s old k → u ≡ check_ttl now s → old ≤ new → l ≡ k → IsKept u new l
kept-swept now s u old new k l h same le eq =
    let fewer = swept-fewer now s.limits.inactive (above_min s) s.connections in
    kept-as s (check_ttl now s) u old new k l h (sound-check-ttl now s h.sound) (sound-check-ttl now (low s) (low-sound s h.sound)) same (omega (arith, fewer.shorter)) le eq

-- ---- the next connection to be cleaned ----

pub next-there : (s : State) (c : Connection) → IsSound s → next_to_clean s.closed s.connections ≡ Some c → list_any (has_number c.number) s.connections ≡ true
next-there s c h e = let f = next-place s h c e in found-there c.number s.connections (placed c.number f.0) f.1

pub kept-next : (s u : State) (old new k l : ℕ) (c : Connection) → IsKept s old k → next_to_clean s.closed s.connections ≡ Some c → u ≡ moved c.number (Cleaning (mark_of_place c.place)) s → old ≤ new → l ≡ k → IsKept u new l
kept-next s u old new k l c h e same le eq =
    kept-as s (moved c.number (Cleaning (mark_of_place c.place)) s) u old new k l h (sound-found-next s h.sound (Some c) e) (sound-found-next (low s) (low-sound s h.sound) (Some c) e) same
    (omega (arith, moved-length c.number (Cleaning (mark_of_place c.place)) s.connections (next-there s c h.sound e))) le eq

-- ---- a request begins ----

pub request-end : (s : State) → is_at_end s ≡ true → request s ≡ record s { closed = true; requests = with_last (wake_all s.requests); spare = max s.spare (length s.requests + 1) }
request-end s e = ap (λ b. if b
    then record s { closed = true; requests = with_last (wake_all s.requests); spare = max s.spare (length s.requests + 1) }
    else record s { requests = s.requests ++ asking s.next_age ∷ []; next_age = s.next_age + 1; spare = max s.spare (length s.requests + 1) }) e

pub request-next : (s : State) → is_at_end s ≡ false → request s ≡ record s { requests = s.requests ++ asking s.next_age ∷ []; next_age = s.next_age + 1; spare = max s.spare (length s.requests + 1) }
request-next s e = ap (λ b. if b
    then record s { closed = true; requests = with_last (wake_all s.requests); spare = max s.spare (length s.requests + 1) }
    else record s { requests = s.requests ++ asking s.next_age ∷ []; next_age = s.next_age + 1; spare = max s.spare (length s.requests + 1) }) e

pub kept-request : (s t u : State) (old new k l : ℕ) → IsKept s old k → request s ≡ t → u ≡ t → length t.connections + t.spare ≤ new → how_many is_dialer t.requests ≤ l → IsKept u new l
kept-request s t u old new k l h is same room few = subst (λ v. IsKept v new l) (sym same) (record { sound = subst IsSound is (sound-request s h.sound); reserved = room; expected = few })

-- what `retire` answers is idle after it
pub retired-may : (now : ℕ) (s : State) (o : Option ℕ) (cs : List Connection) → IsSound s → o ≡ latest_usable now s.connections → cs ≡ retire now s.connections
    → IfSome o (λ n. found_is is_idle (find (has_number n) cs) ≡ true)
retired-may now s None cs h e same = tt
retired-may now s (Some n) cs h e same = ap (λ xs. found_is is_idle (find (has_number n) xs)) same ∙ retired-idle now n s h (sym e)

found-weaker : {X : Type 0} (t k : X → Bool) → ((x : X) → t x ≡ true → k x ≡ true) → (o : Option X) → found_is t o ≡ true → found_is k o ≡ true
found-weaker t k le None e = e
found-weaker t k le (Some x) e = le x e

cleaning-moves : (p : Place) → is_cleaning_place p ≡ true → not (is_connecting_place p || is_checking_place p) ≡ true
cleaning-moves (Cleaning marked) e = refl
cleaning-moves (Idle times) e = absurd (cc)
cleaning-moves Leased e = absurd (cc)
cleaning-moves Connecting e = absurd (cc)
cleaning-moves Checking e = absurd (cc)
cleaning-moves (Returned marked) e = absurd (cc)
cleaning-moves Resetting e = absurd (cc)
cleaning-moves Closing e = absurd (cc)

finish-moves : (ok : Bool) (p : Place) → (is_resetting_place p || is_closing_place p || (is_cleaning_place p && not ok)) ≡ true → not (is_connecting_place p || is_checking_place p) ≡ true
finish-moves ok (Cleaning marked) e = refl
finish-moves ok Resetting e = refl
finish-moves ok Closing e = refl
finish-moves ok (Idle times) e = absurd (cc)
finish-moves ok Leased e = absurd (cc)
finish-moves ok Connecting e = absurd (cc)
finish-moves ok Checking e = absurd (cc)
finish-moves ok (Returned marked) e = absurd (cc)

-- a connection that is decided on, or done with, is held by no request
pub decide-moves : (n : ℕ) (s : State) → may_decide n s ≡ true → may_move n s ≡ true
decide-moves n s e = found-weaker is_cleaning is_unheld (λ c k. cleaning-moves c.place k) (find (has_number n) s.connections) e

pub done-moves : (n : ℕ) (ok : Bool) (s : State) → may_done n ok s ≡ true → may_move n s ≡ true
done-moves n ok s e = found-weaker (may_finish ok) is_unheld (λ c k. finish-moves ok c.place k) (find (has_number n) s.connections) e

-- the ages of the requests rise where one comes
pub last-rises : (s : State) → IsSound s → is_at_end s ≡ true → IsRising 0 (with_last s.requests)
last-rises s h e =
    let t = subst IsSound (request-end s e) (sound-request s h) in
    rising-awake 0 (with_last s.requests) (subst (λ rs. IsRising 0 rs) (sym (wake-all-last s.requests)) t.rising)

pub next-rises : (s : State) → IsSound s → is_at_end s ≡ false → IsRising 0 (s.requests ++ asking s.next_age ∷ [])
next-rises s h e = (subst IsSound (request-next s e) (sound-request s h)).rising

pub request-is : (s seen u t : State) → request s ≡ t → u ≡ t → s ≡ seen → u ≡ request seen
request-is s seen u t e f view = f ∙ sym e ∙ ap request view

-- ---- how many requests may dial ----

roused-dialer : (r : Request) → is_dialer (roused r) ≡ is_dialer r
roused-dialer r = by_standing r.age r.waited r.standing
  where
    by_standing : (a : ℕ) (w : Bool) (st : Standing) → is_dialer (roused (req a w st)) ≡ is_dialer (req a w st)
    by_standing a w Asks = refl
    by_standing a w Waits = refl
    by_standing a w Woken = refl
    by_standing a w (Dials n) = refl
    by_standing a w (Checks n) = refl

-- the request of the last age never does
pub last-dialers : (rs : List Request) → how_many is_dialer (with_last (wake_all rs)) ≤ how_many is_dialer rs
last-dialers rs =
    (elim (list_any (has_age last_age) (wake_all rs)) as (λ b. how_many is_dialer (if b then wake_all rs else wake_all rs ++ asking last_age ∷ []) ≤ how_many is_dialer rs) [
      | true ↦ omega (arith, count-map-same is_dialer roused (λ r. roused-dialer r) rs)
      | false ↦ omega (arith, count-map-same is_dialer roused (λ r. roused-dialer r) rs, count-push is_dialer (wake_all rs) (asking last_age))
    ])

dialer-less : (r : Request) → one (is_dialer r) ≤ one (may_dial r)
dialer-less r = both (may_dial r) (r.age == last_age)
  where
    both : (a b : Bool) → one (a && not b) ≤ one a
    both true true = omega arith
    both true false = omega arith
    both false b = omega arith

-- one more request
pub next-dialers : (age : ℕ) (rs : List Request) → how_many is_dialer (rs ++ asking age ∷ []) ≤ how_many may_dial rs + 1
next-dialers age rs = omega (arith, count-push is_dialer rs (asking age), one-at-most (is_dialer (asking age)), count-implies is_dialer may_dial (λ r. dialer-less r) rs)
  where
    one-at-most : (b : Bool) → one b ≤ 1
    one-at-most true = omega arith
    one-at-most false = omega arith

-- where the last age isn't live, each that may dial needs a number
all-dialers : (rs : List Request) → list_any (has_age last_age) rs ≡ false → how_many may_dial rs ≡ how_many is_dialer rs
all-dialers [] e = refl
all-dialers (r ∷ rs) e =
    (elim (has_age last_age r) as (λ b. has_age last_age r ≡ b → (b || list_any (has_age last_age) rs) ≡ false → one (may_dial r) + how_many may_dial rs ≡ one (may_dial r && not (r.age == last_age)) + how_many is_dialer rs) [
      | true ↦ λ t h. absurd (cc)
      | false ↦ λ t h. omega (arith, all-dialers rs h, ap (λ b. one (may_dial r && not b)) t, and-true (may_dial r))
    ]) refl e
  where
    and-true : (b : Bool) → one (b && true) ≡ one b
    and-true true = refl
    and-true false = refl

neither : (a b c : Bool) → (a || b || c) ≡ false → (b ≡ false) × (c ≡ false)
neither true b c e = absurd (cc)
neither false true c e = absurd (cc)
neither false false c e = (refl, e)

-- numbers for the next request
pub next-expected : (s : State) (coming : ℕ) → is_at_end s ≡ false → how_many is_dialer s.requests ≤ coming → (how_many may_dial s.requests ≤ coming) × (s.next_number + how_many may_dial s.requests < last_age)
next-expected s coming e h =
    let n = neither (s.next_age == last_age) (list_any (has_age last_age) s.requests) (nat_le last_age (s.next_number + how_many may_dial s.requests)) e in
    (omega (arith, h, all-dialers s.requests n.0), below (s.next_number + how_many may_dial s.requests) last_age n.1)
  where
    below : (m n : ℕ) → nat_le n m ≡ false → m < n
    below m n e = grind (arith, nat_tests)

-- a polled request that nobody older waits before looks for a connection among what retiring left
pub polled-as : (age now : ℕ) (s u : State) (latest : Option ℕ) → s.closed ≡ false → waits_up_to age s.requests ≡ false → latest ≡ latest_usable now s.connections → u ≡ record s { connections = retire now s.connections } → sought age latest u ≡ poll_request age now s
polled-as age now s u latest open_ first is same = ap (sought age latest) same ∙ ap (λ o. sought age o (record s { connections = retire now s.connections })) is ∙ sym (rw (open_, first) refl)

-- one that finds a usable connection takes it
pub taken-as : (age n : ℕ) (s seen u : State) (latest : Option ℕ) → latest ≡ Some n → u ≡ (taken age n s).state → s ≡ seen → u ≡ (sought age latest seen).state
taken-as age n s seen u latest is same view = same ∙ ap (λ t. (taken age n t).state) view ∙ sym (ap (λ o. (sought age o seen).state) is)
