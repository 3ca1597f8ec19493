-- What stays where it is, what becomes idle, and that no connection has two owners.
use Rattle.std.proofs.Common.{◌≡◌, ℕ, ◌≤◌, Bool, true, false, Option, Some, None, List, refl, sym, ap, ◌∙◌, arith, inl, inr, subst}
use Rattle.std.specs.Prelude.{find, option_map, ◌==◌, ◌&&◌, not, nat_lt, ◌⊎◌, length}
use Rattle.std.proofs.lemmas.Bool.{eqb-true, eq-eqb}
use Rattle.my_pool_parts.specs.declared.connection.Place.{Place}
use Rattle.my_pool_parts.specs.declared.connection.Place.TheVariants.{Idle, Leased, Connecting, Checking, Returned, Cleaning}
use Rattle.my_pool_parts.specs.declared.connection.Times.{Times}
use Rattle.my_pool_core.specs.declared.event.Facts.{Facts}
use Rattle.my_pool_core.specs.declared.event.PollAnswer.{PollAnswer}
use Rattle.my_pool_core.specs.declared.event.PollAnswer.TheVariants.{Wait, Take, Dial, Closed, Full}
use Rattle.my_pool_core.specs.declared.event.Verdict.{Verdict}
use Rattle.my_pool_core.specs.declared.event.Verdict.TheVariants.{Drop, Clean, Close, Reset, Keep}
use Rattle.my_pool_core.specs.declared.event.PoolEvent.{PoolEvent}
use Rattle.my_pool_core.specs.declared.event.PoolEvent.TheVariants as events
use Rattle.my_pool_parts.specs.declared.request.Request.{Request}
use Rattle.my_pool_parts.specs.declared.request.Standing.{Standing}
use Rattle.my_pool_parts.specs.declared.request.Standing.TheVariants.{Asks, Waits, Woken, Dials, Checks}
use Rattle.my_frame.specs.Lists.{without}
use Rattle.my_pool_parts.specs.Lists.{found_is, how_many}
use Rattle.my_pool_parts.specs.Connections.{has_number, is_connecting, is_checking, is_idle_place, is_leased_place, is_cleaning_place, is_working_place, is_over, latest_usable, retire}
use Rattle.my_pool_parts.specs.Requests.{has_age, waits_up_to, is_queued, has_waited}
use Rattle.my_pool_core.specs.State.{State}
use Rattle.my_pool_core.specs.Events.{Polled, times_of, poll_request, queued, sought, full_answer, is_full, take_returned, decide, done}
use Rattle.my_pool_core.specs.Steps.{may, step}
use Rattle.my_pool_core.specs.Sound.{IsSound, dials, dials_standing, checks, checks_standing}
use Rattle.my_pool_core.specs.Owners.{Token, Free, Making, Looking, token, token_of, number_in, place_at, is_home_place, is_home, is_lease, is_held_place, is_working, mark_at}
use Rattle.my_pool_core.specs.Moves.{IsMove, MayReturn, IsAgingMove, PolledPlaces, CancelledPlaces, TakenPlaces, is_due_place, is_ending_place, is_aged, verdict_place, is_verdict_on, IsKeeping}
use Rattle.my_frame.proofs.Finding.{found-passes}
use Rattle.my_pool_parts.proofs.Finding.{one, count-found, count-and, count-without}
use Rattle.my_pool_parts.proofs.Finding.Keyed.{find-left}
use Rattle.my_pool_core.proofs.Placed.Homes.{home-unleased}
use Rattle.my_pool_core.proofs.Kept.{if-keeps, found-some}
use Rattle.my_pool_core.proofs.Kept.Holding.{connecting-found, checking-found}
use Rattle.my_pool_core.proofs.Kept.Quiet.{IsAt, req}
use Rattle.my_pool_core.proofs.Asked.Tokens.{token-at}
use Rattle.my_pool_core.proofs.Placed.Moves.{places-move}

-- ---- what is being worked on stays ----

idle-works : (q : Place) → is_idle_place q ≡ true → is_working_place q ≡ false
idle-works (Idle times) e = refl
idle-works q e = absurd (cc)

held-works : (q : Place) → is_held_place q ≡ true → is_working_place q ≡ false
held-works Connecting e = refl
held-works Checking e = refl
held-works q e = absurd (cc)

leased-works : (q : Place) → is_leased_place q ≡ true → is_working_place q ≡ false
leased-works Leased e = refl
leased-works q e = absurd (cc)

due-works : (closed : Bool) (q : Place) → is_due_place closed q ≡ true → is_working_place q ≡ false
due-works closed (Idle times) e = refl
due-works closed (Returned marked) e = refl
due-works true q e = absurd (cc)
due-works false q e = absurd (cc)

-- another one than that which moved
move-stays : (from : Place → Bool) (n : ℕ) (p : Option Place) (s t : State) (m : ℕ) → IsMove from n p s t → ((q : Place) → from q ≡ true → is_working_place q ≡ false) → is_working m s ≡ true → place_at m t ≡ place_at m s
move-stays from n p s t m v away works =
    elim (m == n) as (λ k. (m == n) ≡ k → place_at m t ≡ place_at m s) [
      | true ↦ λ k.
          let f = found-some from (place_at n s) v.was in
          let idle : is_working m s ≡ false = ap (λ i. is_working i s) (eqb-true m n k) ∙ ap (found_is is_working_place) f.1 ∙ away f.0 f.2 in
          absurd (cc)
      | false ↦ λ k. v.others m k
    ] refl

aged-stays : (aged : Times → Bool) (marked : Bool) (before later : Option Place) → MayReturn aged marked before later → found_is is_working_place before ≡ true → later ≡ before
aged-stays aged marked before later (inl e) works = e
aged-stays aged marked before later (inr x) works = absurd (let e = sym works ∙ ap (found_is is_working_place) x.1 in cc)

aging-stays : (aged : Times → Bool) (was to : Option Place) (n m : ℕ) (s t : State) → IsAgingMove aged was to n s t → found_is is_working_place was ≡ false → is_working m s ≡ true → place_at m t ≡ place_at m s
aging-stays aged was to n m s t p quiet works =
    elim (m == n) as (λ k. (m == n) ≡ k → place_at m t ≡ place_at m s) [
      | true ↦ λ k.
          let idle : is_working m s ≡ false = ap (λ i. is_working i s) (eqb-true m n k) ∙ ap (found_is is_working_place) p.before ∙ quiet in
          absurd (cc)
      | false ↦ λ k. aged-stays aged false (place_at m s) (place_at m t) (p.others m k) works
    ] refl

polled-stays : (a : PollAnswer) (now m : ℕ) (s t : State) → PolledPlaces now a s t → is_working m s ≡ true → place_at m t ≡ place_at m s
polled-stays Wait now m s t p works = aged-stays (is_over now) false (place_at m s) (place_at m t) (p.each m) works
polled-stays (Full waiting limit) now m s t p works = aged-stays (is_over now) false (place_at m s) (place_at m t) (p.each m) works
polled-stays Closed now m s t p works = p.each m
polled-stays (Take n) now m s t p works = aging-stays (is_over now) (Some (Idle p.times)) (Some Checking) n m s t p.moves refl works
polled-stays (Dial n) now m s t p works = aging-stays (is_over now) None (Some Connecting) n m s t p refl works

cancelled-stays : (o : Option Token) (m : ℕ) (s t : State) → CancelledPlaces o s t → is_working m s ≡ true → place_at m t ≡ place_at m s
cancelled-stays None m s t p works = p.each m
cancelled-stays (Some Free) m s t p works = p.each m
cancelled-stays (Some (Making n)) m s t p works = move-stays is_held_place n None s t m p held-works works
cancelled-stays (Some (Looking n)) m s t p works = move-stays is_held_place n None s t m p held-works works

taken-stays : (o : Option ℕ) (m : ℕ) (s t : State) → TakenPlaces o s t → is_working m s ≡ true → place_at m t ≡ place_at m s
taken-stays None m s t p works = p.each m
taken-stays (Some n) m s t p works = move-stays (is_due_place s.closed) n (Some (Cleaning (mark_at n s))) s t m p (due-works s.closed) works

pub polled-stay : (s : State) (e : PoolEvent) (m : ℕ) → IsSound s → may s e ≡ true → is_working m s ≡ true → is_verdict_on m e ≡ false → place_at m (step s e) ≡ place_at m s
polled-stay s events.Request m h k works plain = (places-move s events.Request h k).each m
polled-stay s (events.PollRequest age now) m h k works plain = polled-stays (poll_request age now s).answer now m s (step s (events.PollRequest age now)) (places-move s (events.PollRequest age now) h k) works
polled-stay s (events.Cancel age) m h k works plain = cancelled-stays (token age s) m s (step s (events.Cancel age)) (places-move s (events.Cancel age) h k) works
polled-stay s (events.Ready age n) m h k works plain = move-stays is_held_place n (Some Leased) s (step s (events.Ready age n)) m (places-move s (events.Ready age n) h k) held-works works
polled-stay s (events.Failed age n) m h k works plain = move-stays is_held_place n None s (step s (events.Failed age n)) m (places-move s (events.Failed age n) h k) held-works works
polled-stay s (events.GiveBack n) m h k works plain = move-stays is_leased_place n (Some (Returned false)) s (step s (events.GiveBack n)) m (places-move s (events.GiveBack n) h k) leased-works works
polled-stay s (events.Detach n) m h k works plain = move-stays is_leased_place n None s (step s (events.Detach n)) m (places-move s (events.Detach n) h k) leased-works works
polled-stay s events.TakeReturned m h k works plain = taken-stays (take_returned s).answer m s (step s events.TakeReturned) (places-move s events.TakeReturned h k) works
polled-stay s (events.Decide n facts now) m h k works plain = (places-move s (events.Decide n facts now) h k).others m plain
polled-stay s (events.Done n ok facts now) m h k works plain = (places-move s (events.Done n ok facts now) h k).others m plain
polled-stay s (events.CheckTtl now) m h k works plain = aged-stays (is_aged now s.limits.inactive) true (place_at m s) (place_at m (step s (events.CheckTtl now))) ((places-move s (events.CheckTtl now) h k).each m) works
polled-stay s events.Close m h k works plain = refl
polled-stay s events.PollDisconnect m h k works plain = refl

-- ---- where a verdict puts a connection ----

pub decided-place : (s : State) (n : ℕ) (facts : Facts) (now : ℕ) → IsSound s → may s (events.Decide n facts now) ≡ true → place_at n (step s (events.Decide n facts now)) ≡ verdict_place (decide n facts now s).answer (place_at n s) facts now
decided-place s n facts now h k = (places-move s (events.Decide n facts now) h k).there

pub done-place : (s : State) (n : ℕ) (ok : Bool) (facts : Facts) (now : ℕ) → IsSound s → may s (events.Done n ok facts now) ≡ true → place_at n (step s (events.Done n ok facts now)) ≡ verdict_place (done n ok facts now s).answer (place_at n s) facts now
done-place s n ok facts now h k = (places-move s (events.Done n ok facts now) h k).there

taken-at : (o : Option ℕ) (n : ℕ) (s t : State) → TakenPlaces o s t → o ≡ Some n → place_at n t ≡ Some (Cleaning (mark_at n s))
taken-at None n s t p e = absurd (cc)
taken-at (Some m) n s t p e = let same : m ≡ n = cc in subst (λ i. place_at i t ≡ Some (Cleaning (mark_at i s))) same p.there

pub taken-place : (s : State) (n : ℕ) → IsSound s → (take_returned s).answer ≡ Some n → place_at n (step s events.TakeReturned) ≡ Some (Cleaning (mark_at n s))
taken-place s n h e = taken-at (take_returned s).answer n s (step s events.TakeReturned) (places-move s events.TakeReturned h refl) e

-- ---- what is idle ----

abbrev WasIdle : ℕ → Times → State → PoolEvent → Type 0
WasIdle m times s e = (place_at m s ≡ Some (Idle times)) ⊎ IsKeeping m times s e

-- the moved one isn't idle then
move-idle : (from : Place → Bool) (n : ℕ) (p : Option Place) (s t : State) (m : ℕ) (times : Times) → IsMove from n p s t → found_is is_idle_place p ≡ false → place_at m t ≡ Some (Idle times) → place_at m s ≡ Some (Idle times)
move-idle from n p s t m times v busy e =
    elim (m == n) as (λ k. (m == n) ≡ k → place_at m s ≡ Some (Idle times)) [
      | true ↦ λ k.
          let at : p ≡ Some (Idle times) = sym v.there ∙ ap (λ i. place_at i t) (sym (eqb-true m n k)) ∙ e in
          absurd (let no = sym busy ∙ ap (found_is is_idle_place) at in cc)
      | false ↦ λ k. sym (v.others m k) ∙ e
    ] refl

aged-idle : (aged : Times → Bool) (marked : Bool) (before later : Option Place) (times : Times) → MayReturn aged marked before later → later ≡ Some (Idle times) → before ≡ Some (Idle times)
aged-idle aged marked before later times (inl e) f = sym e ∙ f
aged-idle aged marked before later times (inr x) f = absurd (let e = x.3 in cc)

aging-idle : (aged : Times → Bool) (was : Option Place) (to : Place) (n m : ℕ) (s t : State) (times : Times) → IsAgingMove aged was (Some to) n s t → is_idle_place to ≡ false → place_at m t ≡ Some (Idle times) → place_at m s ≡ Some (Idle times)
aging-idle aged was to n m s t times p busy e =
    elim (m == n) as (λ k. (m == n) ≡ k → place_at m s ≡ Some (Idle times)) [
      | true ↦ λ k.
          let at : Some to ≡ Some (Idle times) = sym p.there ∙ ap (λ i. place_at i t) (sym (eqb-true m n k)) ∙ e in
          absurd (let no = sym busy ∙ ap (found_is is_idle_place) at in cc)
      | false ↦ λ k. aged-idle aged false (place_at m s) (place_at m t) times (p.others m k) e
    ] refl

polled-idle : (a : PollAnswer) (now m : ℕ) (s t : State) (times : Times) → PolledPlaces now a s t → place_at m t ≡ Some (Idle times) → place_at m s ≡ Some (Idle times)
polled-idle Wait now m s t times p e = aged-idle (is_over now) false (place_at m s) (place_at m t) times (p.each m) e
polled-idle (Full waiting limit) now m s t times p e = aged-idle (is_over now) false (place_at m s) (place_at m t) times (p.each m) e
polled-idle Closed now m s t times p e = sym (p.each m) ∙ e
polled-idle (Take n) now m s t times p e = aging-idle (is_over now) (Some (Idle p.times)) Checking n m s t times p.moves refl e
polled-idle (Dial n) now m s t times p e = aging-idle (is_over now) None Connecting n m s t times p refl e

cancelled-idle : (o : Option Token) (m : ℕ) (s t : State) (times : Times) → CancelledPlaces o s t → place_at m t ≡ Some (Idle times) → place_at m s ≡ Some (Idle times)
cancelled-idle None m s t times p e = sym (p.each m) ∙ e
cancelled-idle (Some Free) m s t times p e = sym (p.each m) ∙ e
cancelled-idle (Some (Making n)) m s t times p e = move-idle is_held_place n None s t m times p refl e
cancelled-idle (Some (Looking n)) m s t times p e = move-idle is_held_place n None s t m times p refl e

taken-idle : (o : Option ℕ) (m : ℕ) (s t : State) (times : Times) → TakenPlaces o s t → place_at m t ≡ Some (Idle times) → place_at m s ≡ Some (Idle times)
taken-idle None m s t times p e = sym (p.each m) ∙ e
taken-idle (Some n) m s t times p e = move-idle (is_due_place s.closed) n (Some (Cleaning (mark_at n s))) s t m times p refl e

-- a verdict that makes a connection idle keeps it, or leaves it idle
idle-by : (v : Verdict) (before : Option Place) (facts : Facts) (now : ℕ) (times : Times) → verdict_place v before facts now ≡ Some (Idle times) → (before ≡ Some (Idle times)) ⊎ ((v ≡ Keep) × (times ≡ times_of facts now))
idle-by Drop before facts now times e = absurd (cc)
idle-by Clean before facts now times e = inl e
idle-by Close before facts now times e = absurd (cc)
idle-by Reset before facts now times e = absurd (cc)
idle-by Keep before facts now times e = inr (refl, cc)

settled-idle : (from : Place → Bool) (n : ℕ) (v : Verdict) (facts : Facts) (now : ℕ) (s t : State) (m : ℕ) (times : Times) → IsMove from n (verdict_place v (place_at n s) facts now) s t → place_at m t ≡ Some (Idle times)
    → (place_at m s ≡ Some (Idle times)) ⊎ ((m ≡ n) × (v ≡ Keep) × (times ≡ times_of facts now))
settled-idle from n v facts now s t m times p e =
    elim (m == n) as (λ k. (m == n) ≡ k → (place_at m s ≡ Some (Idle times)) ⊎ ((m ≡ n) × (v ≡ Keep) × (times ≡ times_of facts now))) [
      | true ↦ λ k.
          let same = eqb-true m n k in
          let at = sym p.there ∙ ap (λ i. place_at i t) (sym same) ∙ e in
          elim (idle-by v (place_at n s) facts now times at) [
            | inl was ↦ inl (ap (λ i. place_at i s) same ∙ was)
            | inr x ↦ inr (same, x.0, x.1)
          ]
      | false ↦ λ k. inl (sym (p.others m k) ∙ e)
    ] refl

-- only a reset that went well keeps
done-keeps : (n : ℕ) (ok : Bool) (facts : Facts) (now : ℕ) (s : State) → (done n ok facts now s).answer ≡ Keep → ok ≡ true
done-keeps n true facts now s e = refl
done-keeps n false facts now s e = absurd (cc)

pub idle-by-keep : (s : State) (e : PoolEvent) (m : ℕ) (times : Times) → IsSound s → may s e ≡ true → place_at m (step s e) ≡ Some (Idle times) → WasIdle m times s e
idle-by-keep s events.Request m times h k e = inl (sym ((places-move s events.Request h k).each m) ∙ e)
idle-by-keep s (events.PollRequest age now) m times h k e = inl (polled-idle (poll_request age now s).answer now m s (step s (events.PollRequest age now)) times (places-move s (events.PollRequest age now) h k) e)
idle-by-keep s (events.Cancel age) m times h k e = inl (cancelled-idle (token age s) m s (step s (events.Cancel age)) times (places-move s (events.Cancel age) h k) e)
idle-by-keep s (events.Ready age n) m times h k e = inl (move-idle is_held_place n (Some Leased) s (step s (events.Ready age n)) m times (places-move s (events.Ready age n) h k) refl e)
idle-by-keep s (events.Failed age n) m times h k e = inl (move-idle is_held_place n None s (step s (events.Failed age n)) m times (places-move s (events.Failed age n) h k) refl e)
idle-by-keep s (events.GiveBack n) m times h k e = inl (move-idle is_leased_place n (Some (Returned false)) s (step s (events.GiveBack n)) m times (places-move s (events.GiveBack n) h k) refl e)
idle-by-keep s (events.Detach n) m times h k e = inl (move-idle is_leased_place n None s (step s (events.Detach n)) m times (places-move s (events.Detach n) h k) refl e)
idle-by-keep s events.TakeReturned m times h k e = inl (taken-idle (take_returned s).answer m s (step s events.TakeReturned) times (places-move s events.TakeReturned h k) e)
idle-by-keep s (events.Decide n facts now) m times h k e = settled-idle is_cleaning_place n (decide n facts now s).answer facts now s (step s (events.Decide n facts now)) m times (places-move s (events.Decide n facts now) h k) e
idle-by-keep s (events.Done n ok facts now) m times h k e =
    elim (settled-idle (is_ending_place ok) n (done n ok facts now s).answer facts now s (step s (events.Done n ok facts now)) m times (places-move s (events.Done n ok facts now) h k) e) [
      | inl was ↦ inl was
      | inr x ↦ inr (x.0, done-keeps n ok facts now s x.1, x.1, x.2)
    ]
idle-by-keep s (events.CheckTtl now) m times h k e = inl (aged-idle (is_aged now s.limits.inactive) true (place_at m s) (place_at m (step s (events.CheckTtl now))) times ((places-move s (events.CheckTtl now) h k).each m) e)
idle-by-keep s events.Close m times h k e = inl e
idle-by-keep s events.PollDisconnect m times h k e = inl e

-- ---- the taken one is the latest usable one ----

abbrev IsLatest : ℕ → ℕ → State → Polled → Type 0
IsLatest now n s d = d.answer ≡ Take n → latest_usable now s.connections ≡ Some n

full-takes : (limit : Option ℕ) (q n : ℕ) → full_answer limit q ≡ Take n → ⊥
full-takes None q n e = cc
full-takes (Some limit) q n e = cc

queued-latest : (age now n : ℕ) (s t : State) → IsLatest now n s (queued age t)
queued-latest age now n s t =
    if-keeps (λ (d : Polled). IsLatest now n s d) (not (found_is has_waited (find (has_age age) t.requests)) && is_full t.limits.waiting (how_many is_queued t.requests)) _ _
    (λ _ e. absurd (full-takes t.limits.waiting (how_many is_queued t.requests) n e))
    (λ _ e. absurd (cc))

sought-latest : (age now n : ℕ) (s t : State) (o : Option ℕ) → latest_usable now s.connections ≡ o → IsLatest now n s (sought age o t)
sought-latest age now n s t (Some m) is = λ e. is ∙ ap (λ i. Some i) (taken m n e)
  where
    taken : (m n : ℕ) → Take m ≡ Take n → m ≡ n
    taken m n e = cc
sought-latest age now n s t None is =
    if-keeps (λ (d : Polled). IsLatest now n s d) (nat_lt (length t.connections) t.limits.max) _ _
    (λ _ e. absurd (cc))
    (λ _. queued-latest age now n s t)

pub takes-latest : (s : State) (age now n : ℕ) → (poll_request age now s).answer ≡ Take n → latest_usable now s.connections ≡ Some n
takes-latest s age now n =
    if-keeps (λ (d : Polled). IsLatest now n s d) s.closed _ _
    (λ _ e. absurd (cc))
    (λ _. if-keeps (λ (d : Polled). IsLatest now n s d) (waits_up_to age s.requests) _ _
    (λ _. queued-latest age now n s s)
    (λ _. sought-latest age now n s (record s { connections = retire now s.connections }) (latest_usable now s.connections) refl))

-- ---- owners ----

making-at : (s : State) (st : Standing) (age n : ℕ) (w : Bool) → IsSound s → IsAt age w st s.requests → token_of st ≡ Making n → IsAt age w (Dials n) s.requests
making-at s (Dials m) age n w h e k = let same : m ≡ n = cc in e ∙ ap (λ i. Some (req age w (Dials i))) same
making-at s Asks age n w h e k = absurd (cc)
making-at s Waits age n w h e k = absurd (cc)
making-at s Woken age n w h e k = absurd (cc)
making-at s (Checks m) age n w h e k = absurd (cc)

looking-at : (s : State) (st : Standing) (age n : ℕ) (w : Bool) → IsSound s → IsAt age w st s.requests → token_of st ≡ Looking n → IsAt age w (Checks n) s.requests
looking-at s (Checks m) age n w h e k = let same : m ≡ n = cc in e ∙ ap (λ i. Some (req age w (Checks i))) same
looking-at s Asks age n w h e k = absurd (cc)
looking-at s Waits age n w h e k = absurd (cc)
looking-at s Woken age n w h e k = absurd (cc)
looking-at s (Dials m) age n w h e k = absurd (cc)

-- the request of an age, by its token
at-age : (age : ℕ) (s : State) (r : Request) → find (has_age age) s.requests ≡ Some r → IsAt age r.waited r.standing s.requests
at-age age s r e = e ∙ ap (λ a. Some (req a r.waited r.standing)) (eqb-true r.age age (found-passes (has_age age) s.requests r e))

pub making-place : (s : State) (age n : ℕ) → IsSound s → token age s ≡ Some (Making n) → place_at n s ≡ Some Connecting
making-place s age n h e =
    let f = token-at age s (Making n) e in
    ap (option_map (λ c. c.place)) (connecting-found s age n f.0.waited h (making-at s f.0.standing age n f.0.waited h (at-age age s f.0 f.1) f.2))

pub looking-place : (s : State) (age n : ℕ) → IsSound s → token age s ≡ Some (Looking n) → place_at n s ≡ Some Checking
looking-place s age n h e =
    let f = token-at age s (Looking n) e in
    ap (option_map (λ c. c.place)) (checking-found s age n f.0.waited h (looking-at s f.0.standing age n f.0.waited h (at-age age s f.0 f.1) f.2))

some-number : (m n : ℕ) → Some m ≡ Some n → m ≡ n
some-number m n e = cc

-- two of two ages
two-found : (q : Request → Bool) (a b : ℕ) (rs : List Request) (x y : Request) → (b == a) ≡ false → find (has_age a) rs ≡ Some x → find (has_age b) rs ≡ Some y → q x ≡ true → q y ≡ true → 2 ≤ how_many q rs
two-found q a b rs x y apart e f p r =
    let left = find-left (λ (r : Request). r.age) a b rs apart ∙ f in
    omega (arith, count-without q (has_age a) rs x e, ap one p, count-found q (has_age b) (without (has_age a) rs) y left, ap one r)

same-age : (q : Request → Bool) (a b : ℕ) (rs : List Request) (x y : Request) → how_many q rs ≤ 1 → find (has_age a) rs ≡ Some x → find (has_age b) rs ≡ Some y → q x ≡ true → q y ≡ true → a ≡ b
same-age q a b rs x y few e f p r =
    elim (b == a) as (λ k. (b == a) ≡ k → a ≡ b) [
      | true ↦ λ k. sym (eqb-true b a k)
      | false ↦ λ k. absurd (omega (arith, few, two-found q a b rs x y k e f p r))
    ] refl

made-once : (s : State) (n : ℕ) → IsSound s → how_many (dials n) s.requests ≤ 1
made-once s n h = omega (arith, h.made n, h.once n, count-and is_connecting (has_number n) s.connections)

looked-once : (s : State) (n : ℕ) → IsSound s → how_many (checks n) s.requests ≤ 1
looked-once s n h = omega (arith, h.looked_at n, h.once n, count-and is_checking (has_number n) s.connections)

making-is : (st : Standing) (n : ℕ) → token_of st ≡ Making n → dials_standing n st ≡ true
making-is (Dials m) n e = let same : m ≡ n = cc in eq-eqb m n same
making-is Asks n e = absurd (cc)
making-is Waits n e = absurd (cc)
making-is Woken n e = absurd (cc)
making-is (Checks m) n e = absurd (cc)

looking-is : (st : Standing) (n : ℕ) → token_of st ≡ Looking n → checks_standing n st ≡ true
looking-is (Checks m) n e = let same : m ≡ n = cc in eq-eqb m n same
looking-is Asks n e = absurd (cc)
looking-is Waits n e = absurd (cc)
looking-is Woken n e = absurd (cc)
looking-is (Dials m) n e = absurd (cc)

-- no two requests hold the connection of one number
pub one-holder : (s : State) (a b n : ℕ) (t u : Token) → IsSound s → token a s ≡ Some t → token b s ≡ Some u → number_in t ≡ Some n → number_in u ≡ Some n → a ≡ b
one-holder s a b n Free u h e f p q = absurd (cc)
one-holder s a b n (Making m) Free h e f p q = absurd (cc)
one-holder s a b n (Looking m) Free h e f p q = absurd (cc)
one-holder s a b n (Making m) (Making k) h e f p q =
    let x = token-at a s (Making n) (e ∙ ap (λ i. Some (Making i)) (some-number m n p)) in
    let y = token-at b s (Making n) (f ∙ ap (λ i. Some (Making i)) (some-number k n q)) in
    same-age (dials n) a b s.requests x.0 y.0 (made-once s n h) x.1 y.1 (making-is x.0.standing n x.2) (making-is y.0.standing n y.2)
one-holder s a b n (Looking m) (Looking k) h e f p q =
    let x = token-at a s (Looking n) (e ∙ ap (λ i. Some (Looking i)) (some-number m n p)) in
    let y = token-at b s (Looking n) (f ∙ ap (λ i. Some (Looking i)) (some-number k n q)) in
    same-age (checks n) a b s.requests x.0 y.0 (looked-once s n h) x.1 y.1 (looking-is x.0.standing n x.2) (looking-is y.0.standing n y.2)
one-holder s a b n (Making m) (Looking k) h e f p q =
    let x = making-place s a n h (e ∙ ap (λ i. Some (Making i)) (some-number m n p)) in
    let y = looking-place s b n h (f ∙ ap (λ i. Some (Looking i)) (some-number k n q)) in
    absurd (cc)
one-holder s a b n (Looking m) (Making k) h e f p q =
    let x = looking-place s a n h (e ∙ ap (λ i. Some (Looking i)) (some-number m n p)) in
    let y = making-place s b n h (f ∙ ap (λ i. Some (Making i)) (some-number k n q)) in
    absurd (cc)

-- what is at home isn't leased
pub home-unleased-at : (s : State) (n : ℕ) → is_home n s ≡ true → is_lease n s ≡ false
home-unleased-at s n e = let f = found-some is_home_place (place_at n s) e in ap (found_is is_leased_place) f.1 ∙ home-unleased f.0 f.2
