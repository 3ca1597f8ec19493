-- What each event does with each connection.
use Rattle.std.proofs.Common.{◌≡◌, ℕ, ◌+◌, ◌≤◌, Bool, true, false, cond, Option, Some, None, List, [], ◌∷◌, length, refl, sym, ap, ◌∙◌, arith, inl, inr, subst}
use Rattle.std.specs.Prelude.{find, option_map, ◌==◌, ◌&&◌, ◌||◌, not, nat_le, nat_lt, if◌then◌else◌}
use Rattle.std.specs.List.{list_any}
use Rattle.std.proofs.lemmas.Bool.{eqb-true, eq-eqb}
use Rattle.std.proofs.lemmas.Bool.Decides.{nat_tests}
use Rattle.my_pool_parts.specs.declared.connection.Connection.{Connection}
use Rattle.my_pool_parts.specs.declared.connection.Place.{Place}
use Rattle.my_pool_parts.specs.declared.connection.Place.TheVariants.{Idle, Leased, Connecting, Checking, Returned, Cleaning, Resetting, Closing}
use Rattle.my_pool_parts.specs.declared.connection.Times.{Times}
use Rattle.my_pool_core.specs.declared.event.Facts.{Facts}
use Rattle.my_pool_core.specs.declared.event.PoolEvent.{PoolEvent}
use Rattle.my_pool_core.specs.declared.event.PoolEvent.TheVariants as events
use Rattle.my_pool_parts.specs.declared.request.Standing.{Standing}
use Rattle.my_pool_parts.specs.declared.request.Standing.TheVariants.{Asks, Waits, Woken, Dials, Checks}
use Rattle.my_frame.specs.Lists.{without}
use Rattle.my_pool_parts.specs.Lists.{how_many, found_is}
use Rattle.my_pool_parts.specs.Connections.{has_number, is_idle, is_leased_place, is_returned, is_cleaning_place, is_marked, is_resetting, mark_of_place, move_to, retire, latest_usable, next_to_clean, is_over}
use Rattle.my_pool_parts.specs.Requests.{has_age, holds, holds_number, is_queued, ended, wake, waits_up_to, has_waited, is_live}
use Rattle.my_pool_core.specs.State.{State}
use Rattle.my_pool_core.specs.Events.{Polled, Decided, is_at_end, request, is_full, full_answer, may_settle, may_cancel, may_decide, may_done, queued, sought, poll_request, cancel, cancel_found, cancel_standing, ready, failed, moved, freed, resting, superfluous, kept, unestablished, dirty_return, outlived, being_reset, cleanup_failed, found_next, keep, decide, done, above_min}
use Rattle.my_pool_core.specs.Steps.{may, step}
use Rattle.my_pool_core.specs.Sound.{IsSound, is_unnumbered}
use Rattle.my_pool_core.specs.Owners.{place_at, is_held_place, mark_at, token, token_of}
use Rattle.my_pool_core.specs.Moves.{IsMove, IsStill, MayReturn, IsAging, PolledPlaces, CancelledPlaces, TakenPlaces, is_due_place, is_ending_place, verdict_place, PlacesMove}
use Rattle.my_frame.proofs.Finding.{found-passes}
use Rattle.my_pool_parts.proofs.Finding.{one, count-found, count-implies}
use Rattle.my_pool_core.proofs.Kept.{if-keeps, found-req, retired-usable}
use Rattle.my_pool_core.proofs.Kept.Holding.{connecting-found, checking-found}
use Rattle.my_pool_core.proofs.Kept.Moving.{sound-retire}
use Rattle.my_pool_core.proofs.Kept.Quiet.{IsAt, req}
use Rattle.my_pool_core.proofs.Placed.{place_in, moved-there, moved-others, gone-there, gone-others, new-there, new-others, none-there, retired-places, swept-places}

-- ---- one connection moves, or goes ----

-- a test of the place of a connection that was found
placed-is : (test : Place → Bool) (o : Option Connection) → found_is test (option_map (λ c. c.place) o) ≡ found_is (λ c. test c.place) o
placed-is test None = refl
placed-is test (Some c) = refl

place-is : (test : Place → Bool) (n : ℕ) (s : State) → found_is (λ c. test c.place) (find (has_number n) s.connections) ≡ true → found_is test (place_at n s) ≡ true
place-is test n s e = placed-is test (find (has_number n) s.connections) ∙ e

moves-to : (from : Place → Bool) (n : ℕ) (p : Place) (s t : State) → IsSound s → found_is from (place_at n s) ≡ true → t.connections ≡ move_to n p s.connections → IsMove from n (Some p) s t
moves-to from n p s t h was e = record {
  was = was;
  there = ap (place_in n) e ∙ moved-there n p s.connections (h.once n);
  others = λ m k. ap (place_in m) e ∙ moved-others n m p s.connections k;
}

goes : (from : Place → Bool) (n : ℕ) (s t : State) → IsSound s → found_is from (place_at n s) ≡ true → t.connections ≡ without (has_number n) s.connections → IsMove from n None s t
goes from n s t h was e = record {
  was = was;
  there = ap (place_in n) e ∙ gone-there n s.connections (h.once n);
  others = λ m k. ap (place_in m) e ∙ gone-others n m s.connections k;
}

stays : (from : Place → Bool) (n : ℕ) (s t : State) → found_is from (place_at n s) ≡ true → t.connections ≡ s.connections → IsMove from n (place_at n s) s t
stays from n s t was e = record { was = was; there = ap (place_in n) e; others = λ m k. ap (place_in m) e }

still : (s t : State) → t.connections ≡ s.connections → IsStill s t
still s t e = record { each = λ m. ap (place_in m) e }

-- ---- what a request holds ----

held-is : (st : Standing) (w : Bool) (age n : ℕ) (s : State) → IsSound s → IsAt age w st s.requests → holds_number n st ≡ true → found_is is_held_place (place_at n s) ≡ true
held-is (Dials m) w age n s h e k =
    let same : m ≡ n = eqb-true m n k in
    place-is is_held_place n s (ap (found_is (λ c. is_held_place c.place)) (connecting-found s age n w h (e ∙ ap (λ x. Some (req age w (Dials x))) same)))
held-is (Checks m) w age n s h e k =
    let same : m ≡ n = eqb-true m n k in
    place-is is_held_place n s (ap (found_is (λ c. is_held_place c.place)) (checking-found s age n w h (e ∙ ap (λ x. Some (req age w (Checks x))) same)))
held-is Asks w age n s h e k = absurd (cc)
held-is Waits w age n s h e k = absurd (cc)
held-is Woken w age n s h e k = absurd (cc)

settled-is : (age n : ℕ) (s : State) → IsSound s → may_settle age n s ≡ true → found_is is_held_place (place_at n s) ≡ true
settled-is age n s h may =
    let f = found-req (holds n) age s.requests may in
    held-is f.0.standing f.0.waited age n s h (f.1 ∙ ap (λ r. Some r) f.3) f.2

cancelled-places : (st : Standing) (w : Bool) (age : ℕ) (s : State) → IsSound s → IsAt age w st s.requests → CancelledPlaces (Some (token_of st)) s (cancel_standing st age s)
cancelled-places Asks w age s h e = still s (cancel_standing Asks age s) refl
cancelled-places Waits w age s h e = still s (cancel_standing Waits age s) refl
cancelled-places Woken w age s h e = still s (cancel_standing Woken age s) refl
cancelled-places (Dials n) w age s h e = goes is_held_place n s (cancel_standing (Dials n) age s) h (held-is (Dials n) w age n s h e (eq-eqb n n refl)) refl
cancelled-places (Checks n) w age s h e = goes is_held_place n s (cancel_standing (Checks n) age s) h (held-is (Checks n) w age n s h e (eq-eqb n n refl)) refl

cancel-places : (age : ℕ) (s : State) → IsSound s → may_cancel age s ≡ true → CancelledPlaces (token age s) s (cancel age s)
cancel-places age s h may =
    let f = found-req is_live age s.requests may in
    subst (λ o. CancelledPlaces (option_map (λ r. token_of r.standing) o) s (cancel_found o age s)) (sym f.1)
    (cancelled-places f.0.standing f.0.waited age s h (f.1 ∙ ap (λ r. Some r) f.3))

-- ---- a polled request ----

abbrev IsTold : ℕ → State → Polled → Type 0
IsTold now s d = PolledPlaces now d.answer s d.state

aging : (now : ℕ) (s t : State) → IsSound s → t.connections ≡ retire now s.connections → IsAging (is_over now) false s t
aging now s t h e = record { each = λ m. subst (λ cs. MayReturn (is_over now) false (place_at m s) (place_in m cs)) (sym e) (retired-places now m s.connections (h.once m)) }

not-aging : (now : ℕ) (s t : State) → t.connections ≡ s.connections → IsAging (is_over now) false s t
not-aging now s t e = record { each = λ m. inl (ap (place_in m) e) }

full-told : (limit : Option ℕ) (n now : ℕ) (s t : State) → IsAging (is_over now) false s t → PolledPlaces now (full_answer limit n) s t
full-told None n now s t a = a
full-told (Some limit) n now s t a = a

queued-told : (age now : ℕ) (s t : State) → ((u : State) → u.connections ≡ t.connections → IsAging (is_over now) false s u) → IsTold now s (queued age t)
queued-told age now s t a =
    if-keeps (λ (d : Polled). IsTold now s d) (not (found_is has_waited (find (has_age age) t.requests)) && is_full t.limits.waiting (how_many is_queued t.requests)) _ _
    (λ _. full-told t.limits.waiting (how_many is_queued t.requests) now s (record t { requests = ended age t.requests }) (a (record t { requests = ended age t.requests }) refl))
    (λ _. a _ refl)

-- one that is idle afterwards was idle before
was-idle : (test : Times → Bool) (before later : Option Place) (times : Times) → MayReturn test false before later → later ≡ Some (Idle times) → before ≡ Some (Idle times)
was-idle test before later times (inl e) f = sym e ∙ f
was-idle test before later times (inr x) f = absurd (let e = x.3 in cc)

numbered-next : (s : State) (c : Connection) → one (has_number s.next_number c) ≤ one (is_unnumbered s.next_number c)
numbered-next s c = number c.number s.next_number
  where
    number : (n next : ℕ) → one (n == next) ≤ one (nat_le next n)
    number n next = grind (arith, nat_tests)

pub next-none : (s : State) → IsSound s → how_many (has_number s.next_number) s.connections ≡ 0
next-none s h = omega (arith, h.numbered, count-implies (has_number s.next_number) (is_unnumbered s.next_number) (numbered-next s) s.connections)

abbrev retired : ℕ → State → State
retired now s = record s { connections = retire now s.connections }

not-over : (b : Bool) → not b ≡ true → b ≡ false
not-over true e = absurd (cc)
not-over false e = refl

sought-told : (age now : ℕ) (s : State) (o : Option ℕ) → IsSound s → latest_usable now s.connections ≡ o → IsTold now s (sought age o (retired now s))
sought-told age now s (Some n) h e =
    let t = retired-usable now n s h e in
    let cs = retire now s.connections in
    let aged = λ (m : ℕ). retired-places now m s.connections (h.once m) in
    let after = sound-retire s now h in
    record {
      times = t.0;
      usable = not-over (is_over now t.0) t.2;
      moves = record {
        before = was-idle (is_over now) (place_at n s) (place_in n cs) t.0 (aged n) (ap (option_map (λ c. c.place)) t.1);
        there = moved-there n Checking cs (after.once n);
        others = λ m k. subst (λ p. MayReturn (is_over now) false (place_at m s) p) (sym (moved-others n m Checking cs k)) (aged m);
      };
    }
sought-told age now s None h e =
    let cs = retire now s.connections in
    let n = s.next_number in
    let aged = λ (m : ℕ). retired-places now m s.connections (h.once m) in
    let after = sound-retire s now h in
    if-keeps (λ (d : Polled). IsTold now s d) (nat_lt (length cs) s.limits.max) _ _
    (λ _. record {
      before = none-there n s.connections (next-none s h);
      there = new-there n Connecting cs (next-none (retired now s) after);
      others = λ m k. subst (λ p. MayReturn (is_over now) false (place_at m s) p) (sym (new-others n m Connecting cs k)) (aged m);
    })
    (λ _. queued-told age now s (retired now s) (λ u e. aging now s u h e))

poll-told : (age now : ℕ) (s : State) → IsSound s → IsTold now s (poll_request age now s)
poll-told age now s h =
    if-keeps (λ (d : Polled). IsTold now s d) s.closed _ _
    (λ _. still s (record s { requests = ended age s.requests }) refl)
    (λ _. if-keeps (λ (d : Polled). IsTold now s d) (waits_up_to age s.requests) _ _
    (λ _. queued-told age now s s (λ u e. not-aging now s u e))
    (λ _. sought-told age now s (latest_usable now s.connections) h refl))

-- ---- a connection is taken to be cleaned ----

-- what a test finds is found by its number
found-itself : (test : Connection → Bool) (cs : List Connection) (c : Connection) → find test cs ≡ Some c → how_many (has_number c.number) cs ≤ 1 → find (has_number c.number) cs ≡ Some c
found-itself test [] c e h = absurd (cc)
found-itself test (x ∷ xs) c e h =
    elim (test x) as (λ b. cond b (Some x) (find test xs) ≡ Some c → find (has_number c.number) (x ∷ xs) ≡ Some c) [
      | true ↦ λ k.
          let same : x ≡ c = cc in
          ap (λ b. cond b (Some x) (find (has_number c.number) xs)) (eq-eqb x.number c.number (ap (λ y. y.number) same)) ∙ ap (λ y. Some y) same
      | false ↦ λ k.
          let rest = found-itself test xs c k (omega (arith, h)) in
          elim (has_number c.number x) as (λ b. one b + how_many (has_number c.number) xs ≤ 1 → cond b (Some x) (find (has_number c.number) xs) ≡ Some c) [
            | true ↦ λ few.
                let it : one (has_number c.number c) ≡ 1 = ap one (eq-eqb c.number c.number refl) in
                absurd (omega (arith, it, few, count-found (has_number c.number) (has_number c.number) xs c rest))
            | false ↦ λ few. rest
          ] h
    ] e

pub due-is : (s : State) (c : Connection) → IsSound s → next_to_clean s.closed s.connections ≡ Some c → (find (has_number c.number) s.connections ≡ Some c) × (is_due_place s.closed c.place ≡ true)
due-is s c h =
    if-keeps (λ o. o ≡ Some c → (find (has_number c.number) s.connections ≡ Some c) × (is_due_place s.closed c.place ≡ true)) (list_any is_returned s.connections) _ _
    (λ _ e. (found-itself is_returned s.connections c e (h.once c.number), ap (λ b. b || (s.closed && is_idle c)) (found-passes is_returned s.connections c e)))
    (λ _. if-keeps (λ o. o ≡ Some c → (find (has_number c.number) s.connections ≡ Some c) × (is_due_place s.closed c.place ≡ true)) s.closed _ _
    (λ shut e. (found-itself is_idle s.connections c e (h.once c.number), due (is_returned c) s.closed (is_idle c) shut (found-passes is_idle s.connections c e)))
    (λ _ e. absurd (cc)))
  where
    due : (a b c : Bool) → b ≡ true → c ≡ true → (a || (b && c)) ≡ true
    due true b c e f = refl
    due false true c e f = f
    due false false c e f = absurd (cc)

found-told : (s : State) → IsSound s → (o : Option Connection) → next_to_clean s.closed s.connections ≡ o → TakenPlaces (found_next o s).answer s (found_next o s).state
found-told s h None e = still s (found_next None s).state refl
found-told s h (Some c) e =
    let f = due-is s c h e in
    let marked : Cleaning (mark_of_place c.place) ≡ Cleaning (mark_at c.number s) = ap (λ o. Cleaning (found_is mark_of_place (option_map (λ c. c.place) o))) (sym f.0) in
    subst (λ p. IsMove (is_due_place s.closed) c.number (Some p) s (found_next (Some c) s).state) marked
    (moves-to (is_due_place s.closed) c.number (Cleaning (mark_of_place c.place)) s (found_next (Some c) s).state h (place-is (is_due_place s.closed) c.number s (ap (found_is (λ c. is_due_place s.closed c.place)) f.0 ∙ f.1)) refl)

-- ---- a verdict ----

abbrev IsSettled : (Place → Bool) → ℕ → Facts → ℕ → State → Decided → Type 0
IsSettled from n facts now s d = IsMove from n (verdict_place d.answer (place_at n s) facts now) s d.state

keep-told : (from : Place → Bool) (n : ℕ) (facts : Facts) (now : ℕ) (s : State) → IsSound s → found_is from (place_at n s) ≡ true → IsSettled from n facts now s (keep n facts now s)
keep-told from n facts now s h was =
    if-keeps (λ (d : Decided). IsSettled from n facts now s d) (nat_le s.limits.bound (how_many is_idle s.connections)) _ _
    (λ _. moves-to from n Closing s (record (moved n Closing s) { counts = superfluous s.counts }) h was refl)
    (λ _. moves-to from n (resting facts now) s (record (moved n (resting facts now) s) { requests = wake s.requests; counts = kept s.counts }) h was refl)

decide-told : (n : ℕ) (facts : Facts) (now : ℕ) (s : State) → IsSound s → may_decide n s ≡ true → IsSettled is_cleaning_place n facts now s (decide n facts now s)
decide-told n facts now s h may =
    let was = place-is is_cleaning_place n s may in
    if-keeps (λ (d : Decided). IsSettled is_cleaning_place n facts now s d) facts.link_closed _ _
    (λ _. goes is_cleaning_place n s (freed n s.requests (record s { counts = unestablished s.counts })) h was refl)
    (λ _. if-keeps (λ (d : Decided). IsSettled is_cleaning_place n facts now s d) facts.dirty _ _
    (λ _. stays is_cleaning_place n s (record s { counts = dirty_return s.counts }) was refl)
    (λ _. if-keeps (λ (d : Decided). IsSettled is_cleaning_place n facts now s d) (facts.expired || found_is is_marked (find (has_number n) s.connections) || s.closed) _ _
    (λ _. moves-to is_cleaning_place n Closing s (record (moved n Closing s) { counts = outlived s.counts }) h was refl)
    (λ _. if-keeps (λ (d : Decided). IsSettled is_cleaning_place n facts now s d) facts.reset _ _
    (λ _. moves-to is_cleaning_place n Resetting s (record (moved n Resetting s) { counts = being_reset s.counts }) h was refl)
    (λ _. keep-told is_cleaning_place n facts now s h was))))

done-told : (n : ℕ) (ok : Bool) (facts : Facts) (now : ℕ) (s : State) → IsSound s → may_done n ok s ≡ true → IsSettled (is_ending_place ok) n facts now s (done n ok facts now s)
done-told n ok facts now s h may =
    let was = place-is (is_ending_place ok) n s may in
    if-keeps (λ (d : Decided). IsSettled (is_ending_place ok) n facts now s d) (ok && found_is is_resetting (find (has_number n) s.connections)) _ _
    (λ _. if-keeps (λ (d : Decided). IsSettled (is_ending_place ok) n facts now s d) s.closed _ _
    (λ _. moves-to (is_ending_place ok) n Closing s (record (moved n Closing s) { counts = superfluous s.counts }) h was refl)
    (λ _. keep-told (is_ending_place ok) n facts now s h was))
    (λ _. goes (is_ending_place ok) n s (freed n s.requests (record s { counts = if ok then s.counts else cleanup_failed s.counts })) h was refl)

-- ---- any event ----

request-still : (s : State) → IsStill s (request s)
request-still s =
    if-keeps (λ (t : State). IsStill s t) (is_at_end s) _ _ (λ _. still s _ refl) (λ _. still s _ refl)

pub places-move : (s : State) (e : PoolEvent) → IsSound s → may s e ≡ true → PlacesMove s e (step s e)
places-move s events.Request h m = request-still s
places-move s (events.PollRequest age now) h m = poll-told age now s h
places-move s (events.Cancel age) h m = cancel-places age s h m
places-move s (events.Ready age n) h m = moves-to is_held_place n Leased s (ready age n s) h (settled-is age n s h m) refl
places-move s (events.Failed age n) h m = goes is_held_place n s (failed age n s) h (settled-is age n s h m) refl
places-move s (events.GiveBack n) h m = moves-to is_leased_place n (Returned false) s (step s (events.GiveBack n)) h (place-is is_leased_place n s m) refl
places-move s (events.Detach n) h m = goes is_leased_place n s (step s (events.Detach n)) h (place-is is_leased_place n s m) refl
places-move s events.TakeReturned h m = found-told s h (next_to_clean s.closed s.connections) refl
places-move s (events.Decide n facts now) h m = decide-told n facts now s h m
places-move s (events.Done n ok facts now) h m = done-told n ok facts now s h m
places-move s (events.CheckTtl now) h m = record { each = λ n. swept-places now s.limits.inactive (above_min s) 0 n s.connections (h.once n) }
places-move s events.Close h m = still s (step s events.Close) refl
places-move s events.PollDisconnect h m = still s s refl
