-- Which connections the layer above keeps, which are leased, and which are idle, after any event.
use Rattle.std.proofs.Common.{◌≡◌, ℕ, Bool, true, false, cond, Option, Some, None, refl, sym, ap, ◌∙◌, inl, inr}
use Rattle.std.specs.Prelude.{◌==◌, ◌&&◌, ◌||◌, not, if◌then◌else◌}
use Rattle.std.proofs.lemmas.Bool.{eqb-true, eq-eqb}
use Rattle.my_pool_parts.specs.declared.connection.Place.{Place}
use Rattle.my_pool_parts.specs.declared.connection.Place.TheVariants.{Idle, Leased, Connecting, Checking, Returned, Cleaning, Resetting, Closing}
use Rattle.my_pool_parts.specs.declared.connection.Times.{Times}
use Rattle.my_pool_core.specs.declared.event.Facts.{Facts}
use Rattle.my_pool_core.specs.declared.event.PollAnswer.{PollAnswer}
use Rattle.my_pool_core.specs.declared.event.PollAnswer.TheVariants.{Wait, Take, Dial, Closed, Full}
use Rattle.my_pool_core.specs.declared.event.Verdict.{Verdict}
use Rattle.my_pool_core.specs.declared.event.Verdict.TheVariants.{Drop, Clean, Close, Reset, Keep}
use Rattle.my_pool_core.specs.declared.event.PoolEvent.{PoolEvent}
use Rattle.my_pool_core.specs.declared.event.PoolEvent.TheVariants as events
use Rattle.my_pool_parts.specs.Lists.{found_is}
use Rattle.my_pool_parts.specs.Connections.{is_leased_place, is_cleaning_place, is_over}
use Rattle.my_pool_core.specs.State.{State}
use Rattle.my_pool_core.specs.Events.{poll_request, take_returned, decide, done}
use Rattle.my_pool_core.specs.Steps.{may, step}
use Rattle.my_pool_core.specs.Sound.{IsSound}
use Rattle.my_pool_core.specs.Owners.{Token, Free, Making, Looking, token, place_at, is_home_place, is_held_place, is_home, is_lease, mark_at}
use Rattle.my_pool_core.specs.Moves.{IsMove, MayReturn, IsAgingMove, PolledPlaces, CancelledPlaces, TakenPlaces, is_due_place, is_ending_place, is_aged, verdict_place, takes_number, is_drop, home_after, lease_after}
use Rattle.my_pool_core.proofs.Kept.{found-some}
use Rattle.my_pool_core.proofs.Placed.Moves.{places-move}

-- ---- a test of the place of each connection ----

-- it is the same where the moved one had it before as it has it now
test-same : (test from : Place → Bool) (n : ℕ) (p : Option Place) (s t : State) (m : ℕ) → IsMove from n p s t → ((q : Place) → from q ≡ true → test q ≡ found_is test p) → found_is test (place_at m t) ≡ found_is test (place_at m s)
test-same test from n p s t m v same =
    elim (m == n) as (λ k. (m == n) ≡ k → found_is test (place_at m t) ≡ found_is test (place_at m s)) [
      | true ↦ λ k.
          let at = eqb-true m n k in
          let f = found-some from (place_at n s) v.was in
          ap (λ i. found_is test (place_at i t)) at ∙ ap (found_is test) v.there ∙ sym (same f.0 f.2) ∙ sym (ap (found_is test) f.1) ∙ ap (λ i. found_is test (place_at i s)) (sym at)
      | false ↦ λ k. ap (found_is test) (v.others m k)
    ] refl

-- what it is then
test-moved : (test from : Place → Bool) (n : ℕ) (p : Option Place) (s t : State) (m : ℕ) → IsMove from n p s t → found_is test (place_at m t) ≡ (if m == n then found_is test p else found_is test (place_at m s))
test-moved test from n p s t m v =
    elim (m == n) as (λ k. (m == n) ≡ k → found_is test (place_at m t) ≡ cond k (found_is test p) (found_is test (place_at m s))) [
      | true ↦ λ k. ap (λ i. found_is test (place_at i t)) (eqb-true m n k) ∙ ap (found_is test) v.there
      | false ↦ λ k. ap (found_is test) (v.others m k)
    ] refl

-- that of one before it moved
test-was : (test from : Place → Bool) (n : ℕ) (p : Option Place) (s t : State) (m : ℕ) (b : Bool) → IsMove from n p s t → ((q : Place) → from q ≡ true → test q ≡ b) → (m == n) ≡ true → found_is test (place_at m s) ≡ b
test-was test from n p s t m b v same k =
    let f = found-some from (place_at n s) v.was in
    ap (λ i. found_is test (place_at i s)) (eqb-true m n k) ∙ ap (found_is test) f.1 ∙ same f.0 f.2

test-aged : (test : Place → Bool) (aged : Times → Bool) (marked : Bool) (before later : Option Place) → ((times : Times) → test (Returned marked) ≡ test (Idle times)) → MayReturn aged marked before later → found_is test later ≡ found_is test before
test-aged test aged marked before later same (inl e) = ap (found_is test) e
test-aged test aged marked before later same (inr x) = ap (found_is test) x.3 ∙ same x.0 ∙ sym (ap (found_is test) x.1)

either : (a b : Bool) → cond a true b ≡ (a || b)
either true b = refl
either false b = refl

neither : (a b : Bool) → cond a false b ≡ (b && not a)
neither true true = refl
neither true false = refl
neither false true = refl
neither false false = refl

-- ---- places ----

held-away : (q : Place) → is_held_place q ≡ true → is_home_place q ≡ false
held-away Connecting e = refl
held-away Checking e = refl
held-away q e = absurd (cc)

leased-away : (q : Place) → is_leased_place q ≡ true → is_home_place q ≡ false
leased-away Leased e = refl
leased-away q e = absurd (cc)

due-home : (closed : Bool) (q : Place) → is_due_place closed q ≡ true → is_home_place q ≡ true
due-home closed (Idle times) e = refl
due-home closed (Returned marked) e = refl
due-home true q e = absurd (cc)
due-home false q e = absurd (cc)

cleaning-home : (q : Place) → is_cleaning_place q ≡ true → is_home_place q ≡ true
cleaning-home (Cleaning marked) e = refl
cleaning-home q e = absurd (cc)

ending-home : (ok : Bool) (q : Place) → is_ending_place ok q ≡ true → is_home_place q ≡ true
ending-home ok (Cleaning marked) e = refl
ending-home ok Resetting e = refl
ending-home ok Closing e = refl
ending-home ok q e = absurd (cc)

-- one that is at home isn't leased
pub home-unleased : (q : Place) → is_home_place q ≡ true → is_leased_place q ≡ false
home-unleased Leased e = absurd (cc)
home-unleased q e = refl

held-unleased : (q : Place) → is_held_place q ≡ true → is_leased_place q ≡ false
held-unleased Connecting e = refl
held-unleased Checking e = refl
held-unleased q e = absurd (cc)

-- ---- homes ----

and-true : (a : Bool) → (a && true) ≡ a
and-true true = refl
and-true false = refl

polled-home : (a : PollAnswer) (now m : ℕ) (s t : State) → PolledPlaces now a s t → is_home m t ≡ (is_home m s && not (takes_number m a))
polled-home Wait now m s t p = test-aged is_home_place (is_over now) false (place_at m s) (place_at m t) (λ _. refl) (p.each m) ∙ sym (and-true (is_home m s))
polled-home (Full waiting limit) now m s t p = test-aged is_home_place (is_over now) false (place_at m s) (place_at m t) (λ _. refl) (p.each m) ∙ sym (and-true (is_home m s))
polled-home Closed now m s t p = ap (found_is is_home_place) (p.each m) ∙ sym (and-true (is_home m s))
polled-home (Take n) now m s t p =
    elim (m == n) as (λ k. (m == n) ≡ k → is_home m t ≡ (is_home m s && not k)) [
      | true ↦ λ k. ap (λ i. is_home i t) (eqb-true m n k) ∙ ap (found_is is_home_place) p.moves.there ∙ sym (none (is_home m s))
      | false ↦ λ k. test-aged is_home_place (is_over now) false (place_at m s) (place_at m t) (λ _. refl) (p.moves.others m k) ∙ sym (and-true (is_home m s))
    ] refl
  where
    none : (a : Bool) → (a && false) ≡ false
    none true = refl
    none false = refl
polled-home (Dial n) now m s t p =
    elim (m == n) as (λ k. (m == n) ≡ k → is_home m t ≡ (is_home m s && true)) [
      | true ↦ λ k.
          let at = eqb-true m n k in
          ap (λ i. is_home i t) at ∙ ap (found_is is_home_place) p.there ∙ sym (and-true (is_home m s) ∙ ap (λ i. is_home i s) at ∙ ap (found_is is_home_place) p.before)
      | false ↦ λ k. test-aged is_home_place (is_over now) false (place_at m s) (place_at m t) (λ _. refl) (p.others m k) ∙ sym (and-true (is_home m s))
    ] refl

cancelled-test : (test : Place → Bool) (o : Option Token) (m : ℕ) (s t : State) → ((q : Place) → is_held_place q ≡ true → test q ≡ false) → CancelledPlaces o s t → found_is test (place_at m t) ≡ found_is test (place_at m s)
cancelled-test test None m s t away p = ap (found_is test) (p.each m)
cancelled-test test (Some Free) m s t away p = ap (found_is test) (p.each m)
cancelled-test test (Some (Making n)) m s t away p = test-same test is_held_place n None s t m p away
cancelled-test test (Some (Looking n)) m s t away p = test-same test is_held_place n None s t m p away

taken-test : (test : Place → Bool) (b : Bool) (o : Option ℕ) (m : ℕ) (s t : State) → ((marked : Bool) → test (Cleaning marked) ≡ b) → ((q : Place) → is_due_place s.closed q ≡ true → test q ≡ b) → TakenPlaces o s t → found_is test (place_at m t) ≡ found_is test (place_at m s)
taken-test test b None m s t cleaning due p = ap (found_is test) (p.each m)
taken-test test b (Some n) m s t cleaning due p = test-same test (is_due_place s.closed) n (Some (Cleaning (mark_at n s))) s t m p (λ q e. due q e ∙ sym (cleaning (mark_at n s)))

verdict-home : (v : Verdict) (before : Option Place) (facts : Facts) (now : ℕ) → found_is is_home_place before ≡ true → found_is is_home_place (verdict_place v before facts now) ≡ not (is_drop v)
verdict-home Drop before facts now e = refl
verdict-home Clean before facts now e = e
verdict-home Close before facts now e = refl
verdict-home Reset before facts now e = refl
verdict-home Keep before facts now e = refl

settled-home : (from : Place → Bool) (n : ℕ) (v : Verdict) (facts : Facts) (now m : ℕ) (s t : State) → ((q : Place) → from q ≡ true → is_home_place q ≡ true)
    → IsMove from n (verdict_place v (place_at n s) facts now) s t → is_home m t ≡ (is_home m s && not (m == n && is_drop v))
settled-home from n v facts now m s t home p =
    let before = test-was is_home_place from n (verdict_place v (place_at n s) facts now) s t n true p home (eq-eqb n n refl) in
    test-moved is_home_place from n (verdict_place v (place_at n s) facts now) s t m p
    ∙ elim (m == n) as (λ k. (m == n) ≡ k → cond k (found_is is_home_place (verdict_place v (place_at n s) facts now)) (is_home m s) ≡ (is_home m s && not (k && is_drop v))) [
      | true ↦ λ k.
          let was = test-was is_home_place from n (verdict_place v (place_at n s) facts now) s t m true p home k in
          verdict-home v (place_at n s) facts now before ∙ sym (ap (λ b. b && not (is_drop v)) was)
      | false ↦ λ k. sym (and-true (is_home m s))
    ] refl

pub homes-move : (s : State) (e : PoolEvent) (m : ℕ) → IsSound s → may s e ≡ true → is_home m (step s e) ≡ home_after s e m
homes-move s events.Request m h k = ap (found_is is_home_place) ((places-move s events.Request h k).each m)
homes-move s (events.PollRequest age now) m h k = polled-home (poll_request age now s).answer now m s (step s (events.PollRequest age now)) (places-move s (events.PollRequest age now) h k)
homes-move s (events.Cancel age) m h k = cancelled-test is_home_place (token age s) m s (step s (events.Cancel age)) held-away (places-move s (events.Cancel age) h k)
homes-move s (events.Ready age n) m h k = test-same is_home_place is_held_place n (Some Leased) s (step s (events.Ready age n)) m (places-move s (events.Ready age n) h k) held-away
homes-move s (events.Failed age n) m h k = test-same is_home_place is_held_place n None s (step s (events.Failed age n)) m (places-move s (events.Failed age n) h k) held-away
homes-move s (events.GiveBack n) m h k = test-moved is_home_place is_leased_place n (Some (Returned false)) s (step s (events.GiveBack n)) m (places-move s (events.GiveBack n) h k) ∙ either (m == n) (is_home m s)
homes-move s (events.Detach n) m h k = test-same is_home_place is_leased_place n None s (step s (events.Detach n)) m (places-move s (events.Detach n) h k) leased-away
homes-move s events.TakeReturned m h k = taken-test is_home_place true (take_returned s).answer m s (step s events.TakeReturned) (λ _. refl) (due-home s.closed) (places-move s events.TakeReturned h k)
homes-move s (events.Decide n facts now) m h k = settled-home is_cleaning_place n (decide n facts now s).answer facts now m s (step s (events.Decide n facts now)) cleaning-home (places-move s (events.Decide n facts now) h k)
homes-move s (events.Done n ok facts now) m h k = settled-home (is_ending_place ok) n (done n ok facts now s).answer facts now m s (step s (events.Done n ok facts now)) (ending-home ok) (places-move s (events.Done n ok facts now) h k)
homes-move s (events.CheckTtl now) m h k = test-aged is_home_place (is_aged now s.limits.inactive) true (place_at m s) (place_at m (step s (events.CheckTtl now))) (λ _. refl) ((places-move s (events.CheckTtl now) h k).each m)
homes-move s events.Close m h k = refl
homes-move s events.PollDisconnect m h k = refl

-- ---- leases ----

due-unleased : (closed : Bool) (q : Place) → is_due_place closed q ≡ true → is_leased_place q ≡ false
due-unleased closed q e = home-unleased q (due-home closed q e)

verdict-unleased : (v : Verdict) (before : Option Place) (facts : Facts) (now : ℕ) → found_is is_leased_place before ≡ false → found_is is_leased_place (verdict_place v before facts now) ≡ false
verdict-unleased Drop before facts now e = refl
verdict-unleased Clean before facts now e = e
verdict-unleased Close before facts now e = refl
verdict-unleased Reset before facts now e = refl
verdict-unleased Keep before facts now e = refl

settled-lease : (from : Place → Bool) (n : ℕ) (v : Verdict) (facts : Facts) (now m : ℕ) (s t : State) → ((q : Place) → from q ≡ true → is_home_place q ≡ true)
    → IsMove from n (verdict_place v (place_at n s) facts now) s t → is_lease m t ≡ is_lease m s
settled-lease from n v facts now m s t home p =
    let to = verdict_place v (place_at n s) facts now in
    let before = test-was is_leased_place from n to s t n false p (λ q e. home-unleased q (home q e)) (eq-eqb n n refl) in
    test-same is_leased_place from n to s t m p (λ q e. home-unleased q (home q e) ∙ sym (verdict-unleased v (place_at n s) facts now before))

-- one that is taken or made isn't leased, before and after
aged-lease : (aged : Times → Bool) (was : Option Place) (to : Place) (n m : ℕ) (s t : State) → IsAgingMove aged was (Some to) n s t → found_is is_leased_place was ≡ false → is_leased_place to ≡ false → is_lease m t ≡ is_lease m s
aged-lease aged was to n m s t p a b =
    elim (m == n) as (λ k. (m == n) ≡ k → is_lease m t ≡ is_lease m s) [
      | true ↦ λ k.
          let at = eqb-true m n k in
          ap (λ i. is_lease i t) at ∙ ap (found_is is_leased_place) p.there ∙ b ∙ sym (ap (λ i. is_lease i s) at ∙ ap (found_is is_leased_place) p.before ∙ a)
      | false ↦ λ k. test-aged is_leased_place aged false (place_at m s) (place_at m t) (λ _. refl) (p.others m k)
    ] refl

polled-lease : (a : PollAnswer) (now m : ℕ) (s t : State) → PolledPlaces now a s t → is_lease m t ≡ is_lease m s
polled-lease Wait now m s t p = test-aged is_leased_place (is_over now) false (place_at m s) (place_at m t) (λ _. refl) (p.each m)
polled-lease (Full waiting limit) now m s t p = test-aged is_leased_place (is_over now) false (place_at m s) (place_at m t) (λ _. refl) (p.each m)
polled-lease Closed now m s t p = ap (found_is is_leased_place) (p.each m)
polled-lease (Take n) now m s t p = aged-lease (is_over now) (Some (Idle p.times)) Checking n m s t p.moves refl refl
polled-lease (Dial n) now m s t p = aged-lease (is_over now) None Connecting n m s t p refl refl

pub leases-move : (s : State) (e : PoolEvent) (m : ℕ) → IsSound s → may s e ≡ true → is_lease m (step s e) ≡ lease_after s e m
leases-move s events.Request m h k = ap (found_is is_leased_place) ((places-move s events.Request h k).each m)
leases-move s (events.PollRequest age now) m h k = polled-lease (poll_request age now s).answer now m s (step s (events.PollRequest age now)) (places-move s (events.PollRequest age now) h k)
leases-move s (events.Cancel age) m h k = cancelled-test is_leased_place (token age s) m s (step s (events.Cancel age)) held-unleased (places-move s (events.Cancel age) h k)
leases-move s (events.Ready age n) m h k = test-moved is_leased_place is_held_place n (Some Leased) s (step s (events.Ready age n)) m (places-move s (events.Ready age n) h k) ∙ either (m == n) (is_lease m s)
leases-move s (events.Failed age n) m h k = test-same is_leased_place is_held_place n None s (step s (events.Failed age n)) m (places-move s (events.Failed age n) h k) held-unleased
leases-move s (events.GiveBack n) m h k = test-moved is_leased_place is_leased_place n (Some (Returned false)) s (step s (events.GiveBack n)) m (places-move s (events.GiveBack n) h k) ∙ neither (m == n) (is_lease m s)
leases-move s (events.Detach n) m h k = test-moved is_leased_place is_leased_place n None s (step s (events.Detach n)) m (places-move s (events.Detach n) h k) ∙ neither (m == n) (is_lease m s)
leases-move s events.TakeReturned m h k = taken-test is_leased_place false (take_returned s).answer m s (step s events.TakeReturned) (λ _. refl) (due-unleased s.closed) (places-move s events.TakeReturned h k)
leases-move s (events.Decide n facts now) m h k = settled-lease is_cleaning_place n (decide n facts now s).answer facts now m s (step s (events.Decide n facts now)) cleaning-home (places-move s (events.Decide n facts now) h k)
leases-move s (events.Done n ok facts now) m h k = settled-lease (is_ending_place ok) n (done n ok facts now s).answer facts now m s (step s (events.Done n ok facts now)) (ending-home ok) (places-move s (events.Done n ok facts now) h k)
leases-move s (events.CheckTtl now) m h k = test-aged is_leased_place (is_aged now s.limits.inactive) true (place_at m s) (place_at m (step s (events.CheckTtl now))) (λ _. refl) ((places-move s (events.CheckTtl now) h k).each m)
leases-move s events.Close m h k = refl
leases-move s events.PollDisconnect m h k = refl
