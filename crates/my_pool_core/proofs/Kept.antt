-- Each event leaves a sound state sound.
pub mod Fewer
pub mod Quiet
pub mod Moving
pub mod Holding
pub mod Opening
use Rattle.std.proofs.Common.{◌≡◌, ℕ, ◌+◌, ◌<◌, Bool, true, false, Option, Some, None, List, [], ◌∷◌, length, refl, sym, ap, ◌∙◌, arith, subst}
use Rattle.std.specs.Prelude.{find, ◌==◌, ◌&&◌, ◌||◌, not, nat_le, nat_lt, if◌then◌else◌}
use Rattle.std.specs.List.{list_any}
use Rattle.std.proofs.lemmas.Bool.{eqb-true, eq-eqb, leb-false, ltb-true}
use Rattle.my_pool_parts.specs.declared.connection.Connection.{Connection}
use Rattle.my_pool_parts.specs.declared.connection.Place.{Place}
use Rattle.my_pool_parts.specs.declared.connection.Place.TheVariants.{Idle, Leased, Connecting, Checking, Returned, Cleaning, Resetting, Closing}
use Rattle.my_pool_parts.specs.declared.connection.Times.{Times}
use Rattle.my_pool_parts.specs.declared.request.Request.{Request}
use Rattle.my_pool_parts.specs.declared.request.Standing.{Standing}
use Rattle.my_pool_parts.specs.declared.request.Standing.TheVariants.{Asks, Waits, Woken, Dials, Checks}
use Rattle.my_pool_core.specs.declared.event.Facts.{Facts}
use Rattle.my_pool_core.specs.declared.limits.Counts.{Counts}
use Rattle.my_frame.specs.Lists.{without}
use Rattle.my_pool_parts.specs.Lists.{how_many, found_is}
use Rattle.my_pool_parts.specs.Connections.{placed, has_number, is_idle, is_idle_place, is_usable, is_usable_place, is_leased_place, is_connecting_place, is_checking_place, is_returned, is_returned_place, is_cleaning_place, is_resetting, is_resetting_place, is_closing_place, is_marked, move_to, latest_usable, retire, next_to_clean, mark_of_place}
use Rattle.my_pool_parts.specs.Requests.{has_age, is_waiting, is_dialing, is_free, holds, holds_number, set_standing, ended, wake, waits_up_to, is_queued, has_waited, is_live}
use Rattle.my_pool_core.specs.State.{State}
use Rattle.my_pool_core.specs.Events.{Polled, Decided, creation_failed, unestablished, dirty_return, outlived, being_reset, superfluous, kept, cleanup_failed, may_poll, queued, sought, poll_request, is_full, may_cancel, cancel_standing, cancel_found, cancel, may_settle, ready, failed, may_give_back, give_back, detach, found_next, take_returned, may_decide, keep, decide, may_done, done, above_min, check_ttl, moved, resting}
use Rattle.my_pool_core.specs.Sound.{IsSound}
use Rattle.my_frame.proofs.Finding.{found-passes}
use Rattle.my_pool_parts.proofs.Finding.{one, count-found, found-once}
use Rattle.my_pool_core.proofs.Kept.Fewer.{sound_after, same-connections, found-placed, move-count}
use Rattle.my_pool_core.proofs.Kept.Quiet.{IsAt, req, quiet-same, quiet-quiet, wake-quiet, ended-quiet}
use Rattle.my_pool_core.proofs.Kept.Moving.{sound-move, sound-free, sound-retire, sound-swept, retire-same}
use Rattle.my_pool_core.proofs.Kept.Holding.{connecting-found, checking-found, ended-less, wake-waiting, sound-drop-held, sound-hand-out, sound-unchecked}
use Rattle.my_pool_core.proofs.Kept.Opening.{sound-ended, sound-waits, sound-takes, sound-dials}

-- a choice has what both parts have
pub if-keeps : {A : Type 0} (P : A → Type 0) (b : Bool) (x y : A) → (b ≡ true → P x) → (b ≡ false → P y) → P (if b then x else y)
if-keeps P true x y p q = p refl
if-keeps P false x y p q = q refl

pub found-some : {X : Type 0} (t : X → Bool) (o : Option X) → found_is t o ≡ true → (x : X) × (o ≡ Some x) × (t x ≡ true)
found-some t None e = absurd (cc)
found-some t (Some x) e = (x, refl, e)

-- what is found by a number, at a place
pub found-at : (t : Place → Bool) (n : ℕ) (cs : List Connection) → found_is (λ c. t c.place) (find (has_number n) cs) ≡ true → (p : Place) × (find (has_number n) cs ≡ Some (placed n p)) × (t p ≡ true)
found-at t n cs e =
    let f = found-some (λ (c : Connection). t c.place) (find (has_number n) cs) e in
    (f.0.place, f.1 ∙ ap (λ c. Some c) (found-placed n cs f.0 f.1), f.2)

-- what is found by an age
pub found-req : (t : Request → Bool) (age : ℕ) (rs : List Request) → found_is t (find (has_age age) rs) ≡ true → (r : Request) × (find (has_age age) rs ≡ Some r) × (t r ≡ true) × (r ≡ req age r.waited r.standing)
found-req t age rs e =
    let f = found-some t (find (has_age age) rs) e in
    (f.0, f.1, f.2, ap (λ a. req a f.0.waited f.0.standing) (eqb-true f.0.age age (found-passes (has_age age) rs f.0 f.1)))

-- a place at which nobody holds the connection
abbrev pub IsUnheld : Place → Type 0
IsUnheld p = (is_connecting_place p ≡ false) × (is_checking_place p ≡ false)

-- none waits after a closed pool, whether one is woken or ends
pub none-wakes : (s : State) → IsSound s → s.closed ≡ true → how_many is_waiting (wake s.requests) ≡ 0
none-wakes s h shut = omega (arith, h.none_waits shut, wake-waiting s.requests)

-- ---- connections ----

leased-unheld : (p : Place) → is_leased_place p ≡ true → IsUnheld p
leased-unheld (Idle times) e = absurd (cc)
leased-unheld Leased e = (refl, refl)
leased-unheld Connecting e = absurd (cc)
leased-unheld Checking e = absurd (cc)
leased-unheld (Returned marked) e = absurd (cc)
leased-unheld (Cleaning marked) e = absurd (cc)
leased-unheld Resetting e = absurd (cc)
leased-unheld Closing e = absurd (cc)

cleaning-unheld : (p : Place) → is_cleaning_place p ≡ true → IsUnheld p
cleaning-unheld (Idle times) e = absurd (cc)
cleaning-unheld Leased e = absurd (cc)
cleaning-unheld Connecting e = absurd (cc)
cleaning-unheld Checking e = absurd (cc)
cleaning-unheld (Returned marked) e = absurd (cc)
cleaning-unheld (Cleaning marked) e = (refl, refl)
cleaning-unheld Resetting e = absurd (cc)
cleaning-unheld Closing e = absurd (cc)

returned-unheld : (p : Place) → is_returned_place p ≡ true → IsUnheld p
returned-unheld (Idle times) e = absurd (cc)
returned-unheld Leased e = absurd (cc)
returned-unheld Connecting e = absurd (cc)
returned-unheld Checking e = absurd (cc)
returned-unheld (Returned marked) e = (refl, refl)
returned-unheld (Cleaning marked) e = absurd (cc)
returned-unheld Resetting e = absurd (cc)
returned-unheld Closing e = absurd (cc)

idle-unheld : (p : Place) → is_idle_place p ≡ true → IsUnheld p
idle-unheld (Idle times) e = (refl, refl)
idle-unheld Leased e = absurd (cc)
idle-unheld Connecting e = absurd (cc)
idle-unheld Checking e = absurd (cc)
idle-unheld (Returned marked) e = absurd (cc)
idle-unheld (Cleaning marked) e = absurd (cc)
idle-unheld Resetting e = absurd (cc)
idle-unheld Closing e = absurd (cc)

finish-unheld : (ok : Bool) (p : Place) → (is_resetting_place p || is_closing_place p || (is_cleaning_place p && not ok)) ≡ true → IsUnheld p
finish-unheld ok (Idle times) e = absurd (cc)
finish-unheld ok Leased e = absurd (cc)
finish-unheld ok Connecting e = absurd (cc)
finish-unheld ok Checking e = absurd (cc)
finish-unheld ok (Returned marked) e = absurd (cc)
finish-unheld ok (Cleaning marked) e = (refl, refl)
finish-unheld ok Resetting e = (refl, refl)
finish-unheld ok Closing e = (refl, refl)

usable-idle : (now : ℕ) (p : Place) → is_usable_place now p ≡ true → (times : Times) × (p ≡ Idle times)
usable-idle now (Idle times) e = (times, refl)
usable-idle now Leased e = absurd (cc)
usable-idle now Connecting e = absurd (cc)
usable-idle now Checking e = absurd (cc)
usable-idle now (Returned marked) e = absurd (cc)
usable-idle now (Cleaning marked) e = absurd (cc)
usable-idle now Resetting e = absurd (cc)
usable-idle now Closing e = absurd (cc)

-- ---- connections ----

-- a connection that nobody holds goes to a place where it isn't idle and nobody holds it
pub sound-move-on : (s : State) (n : ℕ) (p p0 : Place) (counts : Counts) → IsSound s → find (has_number n) s.connections ≡ Some (placed n p0) → IsUnheld p0 → IsUnheld p → is_idle_place p ≡ false
    → IsSound (record s { connections = move_to n p s.connections; counts = counts })
sound-move-on s n p p0 counts h e was is busy =
    sound-move s n p p0 s.requests counts h e was.0 was.1 is.0 is.1 (quiet-same s.requests) h.none_waits
    (omega (arith, h.few_idle, ap one busy, move-count is_idle n p p0 s.connections e))

-- it is freed
pub sound-freed : (s : State) (n : ℕ) (p0 : Place) (counts : Counts) → IsSound s → find (has_number n) s.connections ≡ Some (placed n p0) → IsUnheld p0
    → IsSound (record s { connections = without (has_number n) s.connections; requests = wake s.requests; spare = s.spare + 1; counts = counts })
sound-freed s n p0 counts h e was =
    sound-free s n p0 (wake s.requests) counts h e was.0 was.1 (wake-quiet s.requests) (none-wakes s h)

pub sound-give-back : (n : ℕ) (s : State) → IsSound s → may_give_back n s ≡ true → IsSound (give_back n s)
sound-give-back n s h e =
    let f = found-at is_leased_place n s.connections e in
    sound-move-on s n (Returned false) f.0 s.counts h f.1 (leased-unheld f.0 f.2) (refl, refl) refl

pub sound-detach : (n : ℕ) (s : State) → IsSound s → may_give_back n s ≡ true → IsSound (detach n s)
sound-detach n s h e =
    let f = found-at is_leased_place n s.connections e in
    sound-freed s n f.0 s.counts h f.1 (leased-unheld f.0 f.2)

pub sound-counts : (s : State) (counts : Counts) → IsSound s → IsSound (record s { counts = counts })
sound-counts s counts h = record {
  few = h.few;
  few_idle = h.few_idle;
  once = h.once;
  numbered = h.numbered;
  rising = h.rising;
  ages_left = h.ages_left;
  born = h.born;
  made = h.made;
  looked_at = h.looked_at;
  marked = h.marked;
  numbers_left = h.numbers_left;
  room = h.room;
  none_waits = h.none_waits;
  settled = h.settled;
  last_closes = h.last_closes;
  last_asks = h.last_asks;
}

pub sound-rested : (n : ℕ) (facts : Facts) (now : ℕ) (s : State) (p0 : Place) → IsSound s → find (has_number n) s.connections ≡ Some (placed n p0) → IsUnheld p0
    → how_many is_idle s.connections < s.limits.bound
    → IsSound (record (moved n (resting facts now) s) { requests = wake s.requests; counts = kept s.counts })
sound-rested n facts now s p0 h e was room =
    sound-move s n (resting facts now) p0 (wake s.requests) (kept s.counts) h e was.0 was.1 refl refl (wake-quiet s.requests) (none-wakes s h)
    (omega (arith, room, move-count is_idle n (resting facts now) p0 s.connections e))

pub sound-keep : (n : ℕ) (facts : Facts) (now : ℕ) (s : State) (p0 : Place) → IsSound s → find (has_number n) s.connections ≡ Some (placed n p0) → IsUnheld p0
    → IsSound (keep n facts now s).state
sound-keep n facts now s p0 h e was =
    if-keeps (λ (d : Decided). IsSound d.state) (nat_le s.limits.bound (how_many is_idle s.connections)) _ _
    (λ _. sound-move-on s n Closing p0 (superfluous s.counts) h e was (refl, refl) refl)
    (λ k. sound-rested n facts now s p0 h e was (leb-false s.limits.bound (how_many is_idle s.connections) k))

pub sound-decide : (n : ℕ) (facts : Facts) (now : ℕ) (s : State) → IsSound s → may_decide n s ≡ true → IsSound (decide n facts now s).state
sound-decide n facts now s h e =
    let f = found-at is_cleaning_place n s.connections e in
    let was = cleaning-unheld f.0 f.2 in
    if-keeps (λ (d : Decided). IsSound d.state) facts.link_closed _ _
    (λ _. sound-freed s n f.0 (unestablished s.counts) h f.1 was)
    (λ _. if-keeps (λ (d : Decided). IsSound d.state) facts.dirty _ _
    (λ _. sound-counts s (dirty_return s.counts) h)
    (λ _. if-keeps (λ (d : Decided). IsSound d.state) (facts.expired || found_is is_marked (find (has_number n) s.connections) || s.closed) _ _
    (λ _. sound-move-on s n Closing f.0 (outlived s.counts) h f.1 was (refl, refl) refl)
    (λ _. if-keeps (λ (d : Decided). IsSound d.state) facts.reset _ _
    (λ _. sound-move-on s n Resetting f.0 (being_reset s.counts) h f.1 was (refl, refl) refl)
    (λ _. sound-keep n facts now s f.0 h f.1 was))))

pub sound-done : (n : ℕ) (ok : Bool) (facts : Facts) (now : ℕ) (s : State) → IsSound s → may_done n ok s ≡ true → IsSound (done n ok facts now s).state
sound-done n ok facts now s h e =
    let f = found-at (λ p. is_resetting_place p || is_closing_place p || (is_cleaning_place p && not ok)) n s.connections e in
    let was = finish-unheld ok f.0 f.2 in
    if-keeps (λ (d : Decided). IsSound d.state) (ok && found_is is_resetting (find (has_number n) s.connections)) _ _
    (λ _. if-keeps (λ (d : Decided). IsSound d.state) s.closed _ _
    (λ _. sound-move-on s n Closing f.0 (superfluous s.counts) h f.1 was (refl, refl) refl)
    (λ _. sound-keep n facts now s f.0 h f.1 was))
    (λ _. sound-freed s n f.0 (if ok then s.counts else cleanup_failed s.counts) h f.1 was)

-- a connection that is found by a test is the one that its number finds
pub found-number : (t : Place → Bool) (s : State) (c : Connection) → IsSound s → find (λ c. t c.place) s.connections ≡ Some c → (p : Place) × (find (has_number c.number) s.connections ≡ Some (placed c.number p)) × (t p ≡ true)
found-number t s c h e =
    let passes : t c.place ≡ true = found-passes (λ c. t c.place) s.connections c e in
    let itself : one (t c.place && (c.number == c.number)) ≡ 1 = ap (λ b. one (b && (c.number == c.number))) passes ∙ ap one (eq-eqb c.number c.number refl) in
    let some : 0 < how_many (λ x. t x.place && has_number c.number x) s.connections = omega (arith, itself, count-found (λ x. t x.place && has_number c.number x) (λ x. t x.place) s.connections c e) in
    let y = found-once (λ x. t x.place) (has_number c.number) s.connections (h.once c.number) some in
    (y.0.place, y.1 ∙ ap (λ c. Some c) (found-placed c.number s.connections y.0 y.1), y.2)

pub next-place : (s : State) → IsSound s → (c : Connection) → next_to_clean s.closed s.connections ≡ Some c → (p : Place) × (find (has_number c.number) s.connections ≡ Some (placed c.number p)) × IsUnheld p
next-place s h c =
    if-keeps (λ o. o ≡ Some c → (p : Place) × (find (has_number c.number) s.connections ≡ Some (placed c.number p)) × IsUnheld p) (list_any is_returned s.connections) _ _
    (λ _ e. let f = found-number is_returned_place s c h e in (f.0, f.1, returned-unheld f.0 f.2))
    (λ _. if-keeps (λ o. o ≡ Some c → (p : Place) × (find (has_number c.number) s.connections ≡ Some (placed c.number p)) × IsUnheld p) s.closed _ _
    (λ _ e. let f = found-number is_idle_place s c h e in (f.0, f.1, idle-unheld f.0 f.2))
    (λ _ e. absurd (cc)))

settles : (a b c : Bool) (P Q : Type 0) → (a ≡ true → P × Q) → (b ≡ true → P) → (c ≡ true → Q) → (a || (b && c)) ≡ true → P × Q
settles true b c P Q k l m e = k refl
settles false true true P Q k l m e = (l refl, m refl)
settles false true false P Q k l m e = absurd (cc)
settles false false c P Q k l m e = absurd (cc)

pub sound-found-next : (s : State) → IsSound s → (o : Option Connection) → next_to_clean s.closed s.connections ≡ o → IsSound (found_next o s).state
sound-found-next s h (Some c) e =
    let f = next-place s h c e in
    sound-move-on s c.number (Cleaning (mark_of_place c.place)) f.0 s.counts h f.1 f.2 (refl, refl) refl
sound-found-next s h None e =
    sound_after s s.connections s.requests s.spare (s.settled || (s.closed && length s.connections == 0)) s.counts h
    (same-connections s.connections) (quiet-same s.requests).fewer h.few_idle h.made h.looked_at h.none_waits (omega arith)
    (λ g. settles s.settled s.closed (length s.connections == 0) (s.closed ≡ true) (length s.connections ≡ 0) h.settled (λ k. k) (eqb-true (length s.connections) 0) g)

pub sound-take-returned : (s : State) → IsSound s → IsSound (take_returned s).state
sound-take-returned s h = sound-found-next s h (next_to_clean s.closed s.connections) refl

pub sound-check-ttl : (now : ℕ) (s : State) → IsSound s → IsSound (check_ttl now s)
sound-check-ttl now s h = sound-swept s now (above_min s) h

-- ---- requests ----

pub none-ended : (s : State) (age : ℕ) → IsSound s → s.closed ≡ true → how_many is_waiting (ended age s.requests) ≡ 0
none-ended s age h shut = omega (arith, h.none_waits shut, ended-less is_waiting age s.requests)

sound-cancel-as : (age : ℕ) (s : State) (w : Bool) (st : Standing) → IsSound s → IsAt age w st s.requests → IsSound (cancel_standing st age s)
sound-cancel-as age s w Asks h e = sound-ended s age (req age w Asks) h e refl (none-ended s age h)
sound-cancel-as age s w Waits h e = sound-ended s age (req age w Waits) h e refl (none-ended s age h)
sound-cancel-as age s w Woken h e =
    let q = quiet-quiet s.requests (ended age s.requests) (wake (ended age s.requests)) (ended-quiet age s.requests (req age w Woken) e (λ m. refl) (λ m. refl)) (wake-quiet (ended age s.requests)) in
    sound_after s s.connections (wake (ended age s.requests)) s.spare s.settled s.counts h (same-connections s.connections) q.fewer h.few_idle
    (λ m. q.dials m ∙ h.made m) (λ m. q.checks m ∙ h.looked_at m)
    (λ shut. omega (arith, none-ended s age h shut, wake-waiting (ended age s.requests))) (omega arith) h.settled
sound-cancel-as age s w (Dials n) h e = sound-drop-held s age n w (Dials n) Connecting (creation_failed s.counts) h e refl (λ m. refl) (λ m. refl) (connecting-found s age n w h e)
sound-cancel-as age s w (Checks n) h e = sound-drop-held s age n w (Checks n) Checking (creation_failed s.counts) h e refl (λ m. refl) (λ m. refl) (checking-found s age n w h e)

pub sound-cancel : (age : ℕ) (s : State) → IsSound s → may_cancel age s ≡ true → IsSound (cancel age s)
sound-cancel age s h e =
    let f = found-req is_live age s.requests e in
    let at = f.1 ∙ ap (λ r. Some r) f.3 in
    subst (λ o. IsSound (cancel_found o age s)) (sym f.1) (sound-cancel-as age s f.0.waited f.0.standing h at)

sound-ready-as : (age n : ℕ) (s : State) (w : Bool) (st : Standing) → IsSound s → IsAt age w st s.requests → holds_number n st ≡ true → IsSound (ready age n s)
sound-ready-as age n s w (Dials m) h e k =
    let same : m ≡ n = eqb-true m n k in
    let at = e ∙ ap (λ x. Some (req age w (Dials x))) same in
    sound-hand-out s age n w (Dials n) Connecting h at refl (λ m. refl) (λ m. refl) (connecting-found s age n w h at)
sound-ready-as age n s w (Checks m) h e k =
    let same : m ≡ n = eqb-true m n k in
    let at = e ∙ ap (λ x. Some (req age w (Checks x))) same in
    sound-hand-out s age n w (Checks n) Checking h at refl (λ m. refl) (λ m. refl) (checking-found s age n w h at)
sound-ready-as age n s w Asks h e k = absurd (cc)
sound-ready-as age n s w Waits h e k = absurd (cc)
sound-ready-as age n s w Woken h e k = absurd (cc)

pub sound-ready : (age n : ℕ) (s : State) → IsSound s → may_settle age n s ≡ true → IsSound (ready age n s)
sound-ready age n s h e =
    let f = found-req (holds n) age s.requests e in
    sound-ready-as age n s f.0.waited f.0.standing h (f.1 ∙ ap (λ r. Some r) f.3) f.2

sound-failed-as : (age n : ℕ) (s : State) (w : Bool) (st : Standing) → IsSound s → IsAt age w st s.requests → holds_number n st ≡ true → IsSound (failed age n s)
sound-failed-as age n s w (Dials m) h e k =
    let same : m ≡ n = eqb-true m n k in
    let at = e ∙ ap (λ x. Some (req age w (Dials x))) same in
    subst (λ o. IsSound (record s { connections = without (has_number n) s.connections; requests = wake (if found_is is_dialing o then ended age s.requests else set_standing age Asks s.requests); spare = s.spare + 1; counts = creation_failed s.counts })) (sym at)
    (sound-drop-held s age n w (Dials n) Connecting (creation_failed s.counts) h at refl (λ m. refl) (λ m. refl) (connecting-found s age n w h at))
sound-failed-as age n s w (Checks m) h e k =
    let same : m ≡ n = eqb-true m n k in
    let at = e ∙ ap (λ x. Some (req age w (Checks x))) same in
    subst (λ o. IsSound (record s { connections = without (has_number n) s.connections; requests = wake (if found_is is_dialing o then ended age s.requests else set_standing age Asks s.requests); spare = s.spare + 1; counts = creation_failed s.counts })) (sym at)
    (sound-unchecked s age n w (creation_failed s.counts) h at)
sound-failed-as age n s w Asks h e k = absurd (cc)
sound-failed-as age n s w Waits h e k = absurd (cc)
sound-failed-as age n s w Woken h e k = absurd (cc)

pub sound-failed : (age n : ℕ) (s : State) → IsSound s → may_settle age n s ≡ true → IsSound (failed age n s)
sound-failed age n s h e =
    let f = found-req (holds n) age s.requests e in
    sound-failed-as age n s f.0.waited f.0.standing h (f.1 ∙ ap (λ r. Some r) f.3) f.2

-- the latest usable connection is there, and stays usable when expired ones are returned
latest-there : (now n : ℕ) (cs : List Connection) → latest_usable now cs ≡ Some n → 0 < how_many (λ c. is_usable now c && has_number n c) cs
latest-there now n [] e = absurd (cc)
latest-there now n (c ∷ cs) e =
    if-keeps (λ o. o ≡ Some n → 0 < one (is_usable now c && has_number n c) + how_many (λ c. is_usable now c && has_number n c) cs) (list_any (is_usable now) cs) _ _
    (λ _ k. omega (arith, latest-there now n cs k))
    (λ _. if-keeps (λ o. o ≡ Some n → 0 < one (is_usable now c && has_number n c) + how_many (λ c. is_usable now c && has_number n c) cs) (is_usable now c) _ _
    (λ u k.
    let same : c.number ≡ n = cc in
    let this : one (is_usable now c && has_number n c) ≡ 1 = ap (λ b. one (b && has_number n c)) u ∙ ap one (eq-eqb c.number n same) in
    omega arith)
    (λ _ k. absurd (cc)))
    e

pub retired-usable : (now n : ℕ) (s : State) → IsSound s → latest_usable now s.connections ≡ Some n
    → (times : Times) × (find (has_number n) (retire now s.connections) ≡ Some (placed n (Idle times))) × (is_usable_place now (Idle times) ≡ true)
retired-usable now n s h e =
    let stays = retire-same (λ c. is_usable now c && has_number n c) now (λ c i u. ap (λ b. b && has_number n c) (sym u)) s.connections in
    let some : 0 < how_many (λ c. is_usable now c && has_number n c) (retire now s.connections) = omega (arith, stays, latest-there now n s.connections e) in
    let r = sound-retire s now h in
    let y = found-once (is_usable now) (has_number n) (retire now s.connections) (r.once n) some in
    let u = usable-idle now y.0.place y.2 in
    (u.0, y.1 ∙ ap (λ c. Some c) (found-placed n (retire now s.connections) y.0 y.1 ∙ ap (placed n) u.1), ap (is_usable_place now) (sym u.1) ∙ y.2)

pub retired-there : (now n : ℕ) (s : State) → IsSound s → latest_usable now s.connections ≡ Some n → (times : Times) × (find (has_number n) (retire now s.connections) ≡ Some (placed n (Idle times)))
retired-there now n s h e = let t = retired-usable now n s h e in (t.0, t.1)

pub sound-queued : (age : ℕ) (s : State) (r : Request) → IsSound s → s.closed ≡ false → find (has_age age) s.requests ≡ Some r → is_free r ≡ true → IsSound (queued age s).state
sound-queued age s r h open_ e free =
    if-keeps (λ (d : Polled). IsSound d.state) (not (found_is has_waited (find (has_age age) s.requests)) && is_full s.limits.waiting (how_many is_queued s.requests)) _ _
    (λ _. sound-ended s age r h e free (λ shut. absurd (cc)))
    (λ _. sound-waits s age r h open_ e free)

pub sound-sought : (age : ℕ) (o : Option ℕ) (s : State) (r : Request) → IsSound s → s.closed ≡ false → find (has_age age) s.requests ≡ Some r → is_free r ≡ true
    → ((n : ℕ) → o ≡ Some n → (times : Times) × (find (has_number n) s.connections ≡ Some (placed n (Idle times))))
    → IsSound (sought age o s).state
sound-sought age (Some n) s r h open_ e free there =
    let t = there n refl in sound-takes s age n r t.0 h open_ e free t.1
sound-sought age None s r h open_ e free there =
    if-keeps (λ (d : Polled). IsSound d.state) (nat_lt (length s.connections) s.limits.max) _ _
    (λ k. sound-dials s age r h open_ e free (ltb-true (length s.connections) s.limits.max k))
    (λ _. sound-queued age s r h open_ e free)

pub sound-poll-request : (age now : ℕ) (s : State) → IsSound s → may_poll age s ≡ true → IsSound (poll_request age now s).state
sound-poll-request age now s h e =
    let f = found-req is_free age s.requests e in
    if-keeps (λ (d : Polled). IsSound d.state) s.closed _ _
    (λ _. sound-ended s age f.0 h f.1 f.2 (none-ended s age h))
    (λ open_. if-keeps (λ (d : Polled). IsSound d.state) (waits_up_to age s.requests) _ _
    (λ _. sound-queued age s f.0 h open_ f.1 f.2)
    (λ _. sound-sought age (latest_usable now s.connections) (record s { connections = retire now s.connections }) f.0 (sound-retire s now h) open_ f.1 f.2
    (λ n k. retired-there now n s h k)))
