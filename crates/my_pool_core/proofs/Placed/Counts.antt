-- How many connections there are, how many wait to be cleaned, and how many are idle.
use Rattle.std.proofs.Common.{◌≡◌, ℕ, ◌+◌, ◌≤◌, Bool, true, false, Option, Some, None, List, [], ◌∷◌, length, refl, sym, ap, ◌∙◌, arith, subst, length-append}
use Rattle.std.specs.Prelude.{find, ◌&&◌, ◌||◌, not, nat_le, nat_lt, if◌then◌else◌}
use Rattle.std.specs.List.{list_any}
use Rattle.std.proofs.lemmas.Bool.{eqb-true}
use Rattle.my_pool_parts.specs.declared.connection.Connection.{Connection}
use Rattle.my_pool_parts.specs.declared.connection.Place.{Place}
use Rattle.my_pool_parts.specs.declared.connection.Place.TheVariants.{Idle, Leased, Connecting, Checking, Returned, Cleaning, Resetting, Closing}
use Rattle.my_pool_core.specs.declared.event.Facts.{Facts}
use Rattle.my_pool_core.specs.declared.event.PollAnswer.TheVariants.{Take}
use Rattle.my_pool_core.specs.declared.event.PoolEvent.{PoolEvent}
use Rattle.my_pool_core.specs.declared.event.PoolEvent.TheVariants as events
use Rattle.my_pool_parts.specs.declared.request.Standing.{Standing}
use Rattle.my_pool_parts.specs.declared.request.Standing.TheVariants.{Asks, Waits, Woken, Dials, Checks}
use Rattle.my_frame.specs.Lists.{without}
use Rattle.my_pool_parts.specs.Lists.{found_is, how_many}
use Rattle.my_pool_parts.specs.Connections.{placed, has_number, is_idle, is_leased, is_returned, is_cleaning_place, is_resetting_place, is_closing_place, is_marked, is_resetting, mark_of_place, move_to, latest_usable, retire, next_to_clean}
use Rattle.my_pool_parts.specs.Requests.{has_age, holds, holds_number, is_queued, waits_up_to, has_waited, is_live}
use Rattle.my_pool_core.specs.State.{State}
use Rattle.my_pool_core.specs.Events.{Polled, Decided, is_at_end, request, may_poll, may_cancel, may_decide, may_done, is_full, full_answer, queued, sought, poll_request, cancel, cancel_found, cancel_standing, found_next, take_returned, resting, keep, decide, done, above_min}
use Rattle.my_pool_core.specs.Steps.{may, step}
use Rattle.my_pool_core.specs.Sound.{IsSound}
use Rattle.my_pool_core.specs.Moves.{is_due_place}
use Rattle.my_pool_core.specs.Counted.{room, due, idle}
use Rattle.my_pool_parts.proofs.Finding.{one, count-either, count-without, count-without-le, count-none, none-counted, some-counted, found-any, shorter-where-any}
use Rattle.my_pool_core.proofs.Kept.{if-keeps, found-req, found-at, retired-there}
use Rattle.my_pool_core.proofs.Kept.Fewer.{move-count}
use Rattle.my_pool_core.proofs.Kept.Moving.{all-count, retire-same, retire-idle, swept-same, sound-retire}
use Rattle.my_pool_core.proofs.Kept.Holding.{connecting-found, checking-found}
use Rattle.my_pool_core.proofs.Kept.Quiet.{IsAt, req}
use Rattle.my_pool_core.proofs.Keeping.{moved-length, movable-there, held-there, found-there, next-there, dial-room, retired-idle, decide-moves, done-moves}
use Rattle.my_pool_core.proofs.Placed.Moves.{due-is}

-- ---- room ----

abbrev SameRoom : State → State → Type 0
SameRoom s t = room t ≡ room s

retire-length : (now : ℕ) (cs : List Connection) → length (retire now cs) ≡ length cs
retire-length now cs = omega (arith, all-count cs, all-count (retire now cs), retire-same (λ c. true) now (λ c i u. refl) cs)

freed-room : (n : ℕ) (cs : List Connection) (spare : ℕ) → list_any (has_number n) cs ≡ true → length (without (has_number n) cs) + (spare + 1) ≡ length cs + spare
freed-room n cs spare there = omega (arith, shorter-where-any (has_number n) cs there)

keep-room : (n : ℕ) (facts : Facts) (now : ℕ) (s : State) → list_any (has_number n) s.connections ≡ true → SameRoom s (keep n facts now s).state
keep-room n facts now s there =
    if-keeps (λ (d : Decided). SameRoom s d.state) (nat_le s.limits.bound (how_many is_idle s.connections)) _ _
    (λ _. omega (arith, moved-length n Closing s.connections there))
    (λ _. omega (arith, moved-length n (resting facts now) s.connections there))

decide-room : (n : ℕ) (facts : Facts) (now : ℕ) (s : State) → list_any (has_number n) s.connections ≡ true → SameRoom s (decide n facts now s).state
decide-room n facts now s there =
    if-keeps (λ (d : Decided). SameRoom s d.state) facts.link_closed _ _
    (λ _. freed-room n s.connections s.spare there)
    (λ _. if-keeps (λ (d : Decided). SameRoom s d.state) facts.dirty _ _
    (λ _. refl)
    (λ _. if-keeps (λ (d : Decided). SameRoom s d.state) (facts.expired || found_is is_marked (find (has_number n) s.connections) || s.closed) _ _
    (λ _. omega (arith, moved-length n Closing s.connections there))
    (λ _. if-keeps (λ (d : Decided). SameRoom s d.state) facts.reset _ _
    (λ _. omega (arith, moved-length n Resetting s.connections there))
    (λ _. keep-room n facts now s there))))

done-room : (n : ℕ) (ok : Bool) (facts : Facts) (now : ℕ) (s : State) → list_any (has_number n) s.connections ≡ true → SameRoom s (done n ok facts now s).state
done-room n ok facts now s there =
    if-keeps (λ (d : Decided). SameRoom s d.state) (ok && found_is is_resetting (find (has_number n) s.connections)) _ _
    (λ _. if-keeps (λ (d : Decided). SameRoom s d.state) s.closed _ _
    (λ _. omega (arith, moved-length n Closing s.connections there))
    (λ _. keep-room n facts now s there))
    (λ _. freed-room n s.connections s.spare there)

queued-room : (age : ℕ) (s t : State) → SameRoom s t → SameRoom s (queued age t).state
queued-room age s t e =
    if-keeps (λ (d : Polled). SameRoom s d.state) (not (found_is has_waited (find (has_age age) t.requests)) && is_full t.limits.waiting (how_many is_queued t.requests)) _ _
    (λ _. e)
    (λ _. e)

sought-room : (age : ℕ) (s t : State) (o : Option ℕ) → IsSound t → may_poll age t ≡ true → t.closed ≡ false → ((n : ℕ) → o ≡ Some n → found_is is_idle (find (has_number n) t.connections) ≡ true) → SameRoom s t → SameRoom s (sought age o t).state
sought-room age s t (Some n) h may open_ there e = omega (arith, e, moved-length n Checking t.connections (found-any is_idle (has_number n) t.connections (there n refl)))
sought-room age s t None h may open_ there e =
    if-keeps (λ (d : Polled). SameRoom s d.state) (nat_lt (length t.connections) t.limits.max) _ _
    (λ _. omega (arith, e, length-append t.connections (placed t.next_number Connecting ∷ []), dial-room age t h may open_))
    (λ _. queued-room age s t e)

poll-room : (age now : ℕ) (s : State) → IsSound s → may_poll age s ≡ true → SameRoom s (poll_request age now s).state
poll-room age now s h may =
    if-keeps (λ (d : Polled). SameRoom s d.state) s.closed _ _
    (λ _. refl)
    (λ open_. if-keeps (λ (d : Polled). SameRoom s d.state) (waits_up_to age s.requests) _ _
    (λ _. queued-room age s s refl)
    (λ _. sought-room age s (record s { connections = retire now s.connections }) (latest_usable now s.connections) (sound-retire s now h) may open_
    (λ n e. retired-idle now n s h e) (omega (arith, retire-length now s.connections))))

cancel-room : (st : Standing) (w : Bool) (age : ℕ) (s : State) → IsSound s → IsAt age w st s.requests → SameRoom s (cancel_standing st age s)
cancel-room Asks w age s h e = refl
cancel-room Waits w age s h e = refl
cancel-room Woken w age s h e = refl
cancel-room (Dials n) w age s h e = freed-room n s.connections s.spare (found-there n s.connections (placed n Connecting) (connecting-found s age n w h e))
cancel-room (Checks n) w age s h e = freed-room n s.connections s.spare (found-there n s.connections (placed n Checking) (checking-found s age n w h e))

cancelled-room : (age : ℕ) (s : State) → IsSound s → may_cancel age s ≡ true → SameRoom s (cancel age s)
cancelled-room age s h may =
    let f = found-req is_live age s.requests may in
    subst (λ o. SameRoom s (cancel_found o age s)) (sym f.1) (cancel-room f.0.standing f.0.waited age s h (f.1 ∙ ap (λ r. Some r) f.3))

found-room : (s : State) → IsSound s → (o : Option Connection) → next_to_clean s.closed s.connections ≡ o → SameRoom s (found_next o s).state
found-room s h None e = refl
found-room s h (Some c) e = omega (arith, moved-length c.number (Cleaning (mark_of_place c.place)) s.connections (next-there s c h e))

swept-length : (now : ℕ) (s : State) → length (step s (events.CheckTtl now)).connections ≡ length s.connections
swept-length now s = omega (arith, all-count s.connections, all-count (step s (events.CheckTtl now)).connections, swept-same (λ c. true) now s.limits.inactive (above_min s) (λ c i. refl) s.connections)

pub room-stays : (s : State) (e : PoolEvent) → IsSound s → may s e ≡ true → (e ≡ events.Request → ⊥) → room (step s e) ≡ room s
room-stays s events.Request h m plain = absurd (plain refl)
room-stays s (events.PollRequest age now) h m plain = poll-room age now s h m
room-stays s (events.Cancel age) h m plain = cancelled-room age s h m
room-stays s (events.Ready age n) h m plain = omega (arith, moved-length n Leased s.connections (held-there age n s h m))
room-stays s (events.Failed age n) h m plain = freed-room n s.connections s.spare (held-there age n s h m)
room-stays s (events.GiveBack n) h m plain = omega (arith, moved-length n (Returned false) s.connections (found-any is_leased (has_number n) s.connections m))
room-stays s (events.Detach n) h m plain = freed-room n s.connections s.spare (found-any is_leased (has_number n) s.connections m)
room-stays s events.TakeReturned h m plain = found-room s h (next_to_clean s.closed s.connections) refl
room-stays s (events.Decide n facts now) h m plain = decide-room n facts now s (movable-there n s (decide-moves n s m))
room-stays s (events.Done n ok facts now) h m plain = done-room n ok facts now s (movable-there n s (done-moves n ok s m))
room-stays s (events.CheckTtl now) h m plain = omega (arith, swept-length now s)
room-stays s events.Close h m plain = refl
room-stays s events.PollDisconnect h m plain = refl

pub room-grows : (s : State) → room s ≤ room (request s)
room-grows s = if-keeps (λ (t : State). room s ≤ room t) (is_at_end s) _ _ (λ _. omega arith) (λ _. omega arith)

-- ---- connections that wait to be cleaned ----

abbrev is_due : Bool → Connection → Bool
is_due closed c = is_due_place closed c.place

taken-due : (s : State) → IsSound s → (o : Option Connection) (n : ℕ) → next_to_clean s.closed s.connections ≡ o → (found_next o s).answer ≡ Some n → due (found_next o s).state + 1 ≡ due s
taken-due s h None n e k = absurd (cc)
taken-due s h (Some c) n e k =
    let f = due-is s c h e in
    let p = Cleaning (mark_of_place c.place) in
    let was : one (is_due s.closed c) ≡ 1 = ap one f.1 in
    let is : one (is_due s.closed (placed c.number p)) ≡ 0 = not-due s.closed in
    omega (arith, move-count (is_due s.closed) c.number p c.place s.connections f.0, was, is)
  where
    not-due : (b : Bool) → one (false || (b && false)) ≡ 0
    not-due true = refl
    not-due false = refl

pub take-counts : (s : State) (n : ℕ) → IsSound s → (take_returned s).answer ≡ Some n → due (take_returned s).state + 1 ≡ due s
take-counts s n h e = taken-due s h (next_to_clean s.closed s.connections) n refl e

none-due : (s : State) → list_any is_returned s.connections ≡ false → how_many (λ c. s.closed && is_idle c) s.connections ≡ 0 → due s ≡ 0
none-due s e k = omega (arith, k, none-counted is_returned s.connections e, count-either (is_due s.closed) is_returned (λ c. s.closed && is_idle c) (λ c. either (is_returned c) (s.closed && is_idle c)) s.connections)
  where
    either : (a b : Bool) → one (a || b) ≤ one a + one b
    either true b = omega arith
    either false b = omega arith

never : (cs : List Connection) → how_many (λ c. false) cs ≡ 0
never [] = refl
never (c ∷ cs) = omega (arith, never cs)

found-nothing : (s : State) → next_to_clean s.closed s.connections ≡ None → due s ≡ 0
found-nothing s =
    if-keeps (λ o. o ≡ None → due s ≡ 0) (list_any is_returned s.connections) _ _
    (λ any e. absurd (omega (arith, some-counted is_returned s.connections any, count-none is_returned s.connections e)))
    (λ none. by_closed none s.closed refl)
  where
    by_closed : list_any is_returned s.connections ≡ false → (b : Bool) → s.closed ≡ b → (if b then find is_idle s.connections else None) ≡ None → due s ≡ 0
    by_closed none true k e = none-due s none (ap (λ b. how_many (λ c. b && is_idle c) s.connections) k ∙ count-none is_idle s.connections e)
    by_closed none false k e = none-due s none (ap (λ b. how_many (λ c. b && is_idle c) s.connections) k ∙ never s.connections)

take-nothing : (s : State) (o : Option Connection) → (found_next o s).answer ≡ None → o ≡ None
take-nothing s None e = refl
take-nothing s (Some c) e = absurd (cc)

pub none-counts : (s : State) → (take_returned s).answer ≡ None → due s ≡ 0
none-counts s e = found-nothing s (take-nothing s (next_to_clean s.closed s.connections) e)

-- a connection that isn't due moves to where it isn't
moved-due : (n : ℕ) (p p0 : Place) (s : State) → find (has_number n) s.connections ≡ Some (placed n p0) → is_due_place s.closed p ≡ false → how_many (is_due s.closed) (move_to n p s.connections) ≤ due s
moved-due n p p0 s e quiet = omega (arith, move-count (is_due s.closed) n p p0 s.connections e, ap one quiet)

freed-due : (n : ℕ) (s : State) → how_many (is_due s.closed) (without (has_number n) s.connections) ≤ due s
freed-due n s = count-without-le (is_due s.closed) (has_number n) s.connections

closing-due : (b : Bool) → (false || (b && false)) ≡ false
closing-due true = refl
closing-due false = refl

abbrev NotMoreDue : State → Decided → Type 0
NotMoreDue s d = due d.state ≤ due s

keep-due : (n : ℕ) (facts : Facts) (now : ℕ) (p0 : Place) (s : State) → s.closed ≡ false → find (has_number n) s.connections ≡ Some (placed n p0) → NotMoreDue s (keep n facts now s)
keep-due n facts now p0 s open_ e =
    if-keeps (λ (d : Decided). NotMoreDue s d) (nat_le s.limits.bound (how_many is_idle s.connections)) _ _
    (λ _. moved-due n Closing p0 s e (closing-due s.closed))
    (λ _. moved-due n (resting facts now) p0 s e (ap (λ b. false || (b && true)) open_))

or-false : (a b : Bool) → (a || b) ≡ false → b ≡ false
or-false true b e = absurd (cc)
or-false false b e = e

pub decide-due : (s : State) (n : ℕ) (facts : Facts) (now : ℕ) → may_decide n s ≡ true → due (decide n facts now s).state ≤ due s
decide-due s n facts now may =
    let f = found-at is_cleaning_place n s.connections may in
    if-keeps (λ (d : Decided). NotMoreDue s d) facts.link_closed _ _
    (λ _. freed-due n s)
    (λ _. if-keeps (λ (d : Decided). NotMoreDue s d) facts.dirty _ _
    (λ _. omega arith)
    (λ _. if-keeps (λ (d : Decided). NotMoreDue s d) (facts.expired || found_is is_marked (find (has_number n) s.connections) || s.closed) _ _
    (λ _. moved-due n Closing f.0 s f.1 (closing-due s.closed))
    (λ k. if-keeps (λ (d : Decided). NotMoreDue s d) facts.reset _ _
    (λ _. moved-due n Resetting f.0 s f.1 (closing-due s.closed))
    (λ _. keep-due n facts now f.0 s (or-false (facts.expired || found_is is_marked (find (has_number n) s.connections)) s.closed k) f.1))))

pub done-due : (s : State) (n : ℕ) (ok : Bool) (facts : Facts) (now : ℕ) → may_done n ok s ≡ true → due (done n ok facts now s).state ≤ due s
done-due s n ok facts now may =
    let f = found-at (λ p. is_resetting_place p || is_closing_place p || (is_cleaning_place p && not ok)) n s.connections may in
    if-keeps (λ (d : Decided). NotMoreDue s d) (ok && found_is is_resetting (find (has_number n) s.connections)) _ _
    (λ _. if-keeps (λ (d : Decided). NotMoreDue s d) s.closed _ _
    (λ _. moved-due n Closing f.0 s f.1 (closing-due s.closed))
    (λ k. keep-due n facts now f.0 s k f.1))
    (λ _. freed-due n s)

-- ---- idle connections ----

abbrev FewerIdle : ℕ → State → Polled → Type 0
FewerIdle n s d = d.answer ≡ Take n → idle d.state + 1 ≤ idle s

full-takes : (limit : Option ℕ) (q n : ℕ) → full_answer limit q ≡ Take n → ⊥
full-takes None q n e = cc
full-takes (Some limit) q n e = cc

queued-idle : (age n : ℕ) (s t : State) → FewerIdle n s (queued age t)
queued-idle age n s t =
    if-keeps (λ (d : Polled). FewerIdle n s d) (not (found_is has_waited (find (has_age age) t.requests)) && is_full t.limits.waiting (how_many is_queued t.requests)) _ _
    (λ _ e. absurd (full-takes t.limits.waiting (how_many is_queued t.requests) n e))
    (λ _ e. absurd (cc))

sought-idle : (age now n : ℕ) (s : State) (o : Option ℕ) → IsSound s → latest_usable now s.connections ≡ o → FewerIdle n s (sought age o (record s { connections = retire now s.connections }))
sought-idle age now n s (Some m) h is = λ _.
    let t = retired-there now m s h is in
    omega (arith, move-count is_idle m Checking (Idle t.0) (retire now s.connections) t.1, retire-idle now s.connections)
sought-idle age now n s None h is =
    if-keeps (λ (d : Polled). FewerIdle n s d) (nat_lt (length (retire now s.connections)) s.limits.max) _ _
    (λ _ e. absurd (cc))
    (λ _. queued-idle age n s (record s { connections = retire now s.connections }))

pub take-idle : (s : State) (age now n : ℕ) → IsSound s → (poll_request age now s).answer ≡ Take n → idle (poll_request age now s).state + 1 ≤ idle s
take-idle s age now n h =
    if-keeps (λ (d : Polled). FewerIdle n s d) s.closed _ _
    (λ _ e. absurd (cc))
    (λ _. if-keeps (λ (d : Polled). FewerIdle n s d) (waits_up_to age s.requests) _ _
    (λ _. queued-idle age n s s)
    (λ _. sought-idle age now n s (latest_usable now s.connections) h refl))

-- a connection that a request holds isn't idle
held-idle : (st : Standing) (w : Bool) (age n : ℕ) (s : State) → IsSound s → IsAt age w st s.requests → holds_number n st ≡ true → how_many is_idle (without (has_number n) s.connections) ≡ idle s
held-idle (Dials m) w age n s h e k =
    let at = connecting-found s age n w h (e ∙ ap (λ x. Some (req age w (Dials x))) (eqb-true m n k)) in
    omega (arith, count-without is_idle (has_number n) s.connections (placed n Connecting) at)
held-idle (Checks m) w age n s h e k =
    let at = checking-found s age n w h (e ∙ ap (λ x. Some (req age w (Checks x))) (eqb-true m n k)) in
    omega (arith, count-without is_idle (has_number n) s.connections (placed n Checking) at)
held-idle Asks w age n s h e k = absurd (cc)
held-idle Waits w age n s h e k = absurd (cc)
held-idle Woken w age n s h e k = absurd (cc)

pub failed-idle : (s : State) (age n : ℕ) → IsSound s → may s (events.Failed age n) ≡ true → idle (step s (events.Failed age n)) ≡ idle s
failed-idle s age n h may =
    let f = found-req (holds n) age s.requests may in
    held-idle f.0.standing f.0.waited age n s h (f.1 ∙ ap (λ r. Some r) f.3) f.2
