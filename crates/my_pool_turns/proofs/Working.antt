-- What a poll of the call of a task needs, and leaves.
use Rattle.std.proofs.Common.{◌≡◌, ◌⊎◌, ℕ, ◌<◌, ◌-◌, ◌^◌, Bool, true, false, Option, Some, None, refl, sym, ap, ◌∙◌, subst, inl, inr, arith}
use Rattle.std.specs.Prelude.{find, option_map, nat_le, IfSome, MatchOption}
use Rattle.std.proofs.lemmas.Bool.{eqb-true, leb-false}
use Rattle.my_frame.proofs.Finding.{found-passes}
use Rattle.my_pool_parts.specs.declared.connection.Connection.{Connection}
use Rattle.my_pool_parts.specs.declared.connection.Place.{Place}
use Rattle.my_pool_parts.specs.declared.connection.Place.TheVariants.{Idle, Leased, Connecting, Checking, Returned, Cleaning, Resetting, Closing}
use Rattle.my_pool_parts.specs.Lists.{found_is}
use Rattle.my_pool_parts.specs.Connections.{has_number, is_at_work, is_cleaning_place, is_working_place}
use Rattle.my_pool_parts.proofs.Finding.{one, count-found}
use Rattle.my_pool_core.specs.Counted.{working}
use Rattle.my_pool_core.specs.Moves.{is_ending_place}
use Rattle.my_pool_core.specs.Owners.{IsNextAt, IsNoneAt, is_at, place_at}
use Rattle.my_pool_core.specs.Sound.{IsSound, is_unnumbered}
use Rattle.my_pool_core.specs.State.{State}
use Rattle.my_reading.specs.declared.call.CallKind.{CallKind}
use Rattle.my_client.specs.declared.poll.After.{After}
use Rattle.my_client.specs.declared.poll.After.TheVariants as afters
use Rattle.my_client.specs.Calls.{MayPoll, pending_after}
use Rattle.my_conn.specs.Conn.{ConnSeen}
use Rattle.my_pool_store.specs.Shelves.{kept_at}
use Rattle.my_pool.specs.Fit.{IsFit, IsStill, MayWork, call_at}
use Rattle.my_pool.specs.Pools.{ConnEntry, IsCleaned, IsDone, IsOut, Pool, Same}
use Rattle.my_pool_turns.specs.declared.task.Task.{Task}
use Rattle.my_pool_turns.specs.declared.task.Task.TheVariants as tasks
use Rattle.my_pool_turns.specs.declared.task.Worked.{Worked}
use Rattle.my_pool_turns.specs.declared.task.Worked.TheVariants.{Pending, Done, Failed}
use Rattle.my_pool_turns.specs.Works.{EndsBy, WorkLeaves, state_of}
use Rattle.my_pool_turns.specs.Tasks.{MayDo, call_where, is_place_of, kind_at, kind_for}

-- ---- the call of a task ----

begins : (task : Task) → MayPoll (kind_for task) (call_where None task) None
begins tasks.Clean = (refl, refl, refl)
begins tasks.Reset = (refl, refl, refl)
begins tasks.Close = (refl, refl, refl)

-- it may be polled
pub may-poll : (task : Task) (o : Option CallKind) → (o ≡ None) ⊎ (o ≡ Some (kind_for task)) → MayPoll (kind_for task) (call_where o task) o
may-poll task o (inl e) = subst (λ (o : Option CallKind). MayPoll (kind_for task) (call_where o task) o) (sym e) (begins task)
may-poll task o (inr e) = subst (λ (o : Option CallKind). MayPoll (kind_for task) (call_where o task) o) (sym e) refl

same : (p q : Place) → Some p ≡ Some q → q ≡ p
same p q e = cc

-- at its place
call-at : (task : Task) (p : Option Place) → found_is (is_place_of task) p ≡ true → (q : Place) → p ≡ Some q → call_at q ≡ Some (kind_for task)
call-at task None e q f = absurd (cc)
call-at tasks.Clean (Some (Idle times)) e q f = absurd (cc)
call-at tasks.Clean (Some Leased) e q f = absurd (cc)
call-at tasks.Clean (Some Connecting) e q f = absurd (cc)
call-at tasks.Clean (Some Checking) e q f = absurd (cc)
call-at tasks.Clean (Some (Returned marked)) e q f = absurd (cc)
call-at tasks.Clean (Some (Cleaning marked)) e q f = ap call_at (same (Cleaning marked) q f)
call-at tasks.Clean (Some Resetting) e q f = absurd (cc)
call-at tasks.Clean (Some Closing) e q f = absurd (cc)
call-at tasks.Reset (Some (Idle times)) e q f = absurd (cc)
call-at tasks.Reset (Some Leased) e q f = absurd (cc)
call-at tasks.Reset (Some Connecting) e q f = absurd (cc)
call-at tasks.Reset (Some Checking) e q f = absurd (cc)
call-at tasks.Reset (Some (Returned marked)) e q f = absurd (cc)
call-at tasks.Reset (Some (Cleaning marked)) e q f = absurd (cc)
call-at tasks.Reset (Some Resetting) e q f = ap call_at (same Resetting q f)
call-at tasks.Reset (Some Closing) e q f = absurd (cc)
call-at tasks.Close (Some (Idle times)) e q f = absurd (cc)
call-at tasks.Close (Some Leased) e q f = absurd (cc)
call-at tasks.Close (Some Connecting) e q f = absurd (cc)
call-at tasks.Close (Some Checking) e q f = absurd (cc)
call-at tasks.Close (Some (Returned marked)) e q f = absurd (cc)
call-at tasks.Close (Some (Cleaning marked)) e q f = absurd (cc)
call-at tasks.Close (Some Resetting) e q f = absurd (cc)
call-at tasks.Close (Some Closing) e q f = ap call_at (same Closing q f)

module _ {L : Type 0} where
  may-as : (task : Task) (c : ConnSeen L) (place : Place) → call_at place ≡ Some (kind_for task) → MayWork place c → MayDo task c
  may-as task c place call (inl still) = inl still
  may-as task c place call (inr going) = inr (going ∙ call)

  -- a connection in hand at the place of a task
  pub may-do : (task : Task) (e : ConnEntry L) (p : Pool L) → IsOut e p → found_is (is_place_of task) (place_at e.number p.state) ≡ true → MayDo task e.conn
  may-do task e p out at = may-as task e.conn out.place (call-at task (place_at e.number p.state) at out.place out.there) out.works

-- ---- what a poll leaves ----

pub pends : (k : CallKind) (a : After) → state_of a ≡ Pending → pending_after k a ≡ Some k
pends k afters.Pending e = refl
pends k (afters.Answered answer) e = absurd (cc)
pends k (afters.Failed error) e = absurd (cc)

pub answers-still : (k : CallKind) (a : After) → state_of a ≡ Done → pending_after k a ≡ None
answers-still k afters.Pending e = absurd (cc)
answers-still k (afters.Answered answer) e = refl
answers-still k (afters.Failed error) e = absurd (cc)

pub fails-still : (k : CallKind) (a : After) → state_of a ≡ Failed → pending_after k a ≡ None
fails-still k afters.Pending e = absurd (cc)
fails-still k (afters.Answered answer) e = absurd (cc)
fails-still k (afters.Failed error) e = refl

no-reset : tasks.Clean ≡ tasks.Reset → ⊥
no-reset e = cc

no-close : tasks.Close ≡ tasks.Reset → ⊥
no-close e = cc

module _ {L : Type 0} where
  -- a call that was answered leaves none open, and a reset that is done a connection that is fit
  pub ends-leave : (task : Task) (c : ConnSeen L) (w : Worked) → IsStill c → EndsBy task c w → WorkLeaves task c w
  ends-leave tasks.Clean c w still e = subst (WorkLeaves tasks.Clean c) (sym e) (still, λ f. absurd (no-reset f))
  ends-leave tasks.Reset c Pending still e = absurd e
  ends-leave tasks.Reset c Done still e = (still, λ f. e)
  ends-leave tasks.Reset c Failed still e = still
  ends-leave tasks.Close c w still e = subst (WorkLeaves tasks.Close c) (sym e) (still, λ f. absurd (no-close f))

-- ---- its place ----

-- it is one at which a turn works
pub works-there : (task : Task) (p : Option Place) → found_is (is_place_of task) p ≡ true → found_is is_working_place p ≡ true
works-there task None e = absurd (cc)
works-there tasks.Clean (Some (Idle times)) e = absurd (cc)
works-there tasks.Clean (Some Leased) e = absurd (cc)
works-there tasks.Clean (Some Connecting) e = absurd (cc)
works-there tasks.Clean (Some Checking) e = absurd (cc)
works-there tasks.Clean (Some (Returned marked)) e = absurd (cc)
works-there tasks.Clean (Some (Cleaning marked)) e = refl
works-there tasks.Clean (Some Resetting) e = absurd (cc)
works-there tasks.Clean (Some Closing) e = absurd (cc)
works-there tasks.Reset (Some (Idle times)) e = absurd (cc)
works-there tasks.Reset (Some Leased) e = absurd (cc)
works-there tasks.Reset (Some Connecting) e = absurd (cc)
works-there tasks.Reset (Some Checking) e = absurd (cc)
works-there tasks.Reset (Some (Returned marked)) e = absurd (cc)
works-there tasks.Reset (Some (Cleaning marked)) e = absurd (cc)
works-there tasks.Reset (Some Resetting) e = refl
works-there tasks.Reset (Some Closing) e = absurd (cc)
works-there tasks.Close (Some (Idle times)) e = absurd (cc)
works-there tasks.Close (Some Leased) e = absurd (cc)
works-there tasks.Close (Some Connecting) e = absurd (cc)
works-there tasks.Close (Some Checking) e = absurd (cc)
works-there tasks.Close (Some (Returned marked)) e = absurd (cc)
works-there tasks.Close (Some (Cleaning marked)) e = absurd (cc)
works-there tasks.Close (Some Resetting) e = absurd (cc)
works-there tasks.Close (Some Closing) e = refl

-- a failure may be told there
pub ends-failed : (task : Task) (p : Option Place) → found_is (is_place_of task) p ≡ true → found_is (is_ending_place false) p ≡ true
ends-failed task None e = absurd (cc)
ends-failed tasks.Clean (Some (Idle times)) e = absurd (cc)
ends-failed tasks.Clean (Some Leased) e = absurd (cc)
ends-failed tasks.Clean (Some Connecting) e = absurd (cc)
ends-failed tasks.Clean (Some Checking) e = absurd (cc)
ends-failed tasks.Clean (Some (Returned marked)) e = absurd (cc)
ends-failed tasks.Clean (Some (Cleaning marked)) e = refl
ends-failed tasks.Clean (Some Resetting) e = absurd (cc)
ends-failed tasks.Clean (Some Closing) e = absurd (cc)
ends-failed tasks.Reset (Some (Idle times)) e = absurd (cc)
ends-failed tasks.Reset (Some Leased) e = absurd (cc)
ends-failed tasks.Reset (Some Connecting) e = absurd (cc)
ends-failed tasks.Reset (Some Checking) e = absurd (cc)
ends-failed tasks.Reset (Some (Returned marked)) e = absurd (cc)
ends-failed tasks.Reset (Some (Cleaning marked)) e = absurd (cc)
ends-failed tasks.Reset (Some Resetting) e = refl
ends-failed tasks.Reset (Some Closing) e = absurd (cc)
ends-failed tasks.Close (Some (Idle times)) e = absurd (cc)
ends-failed tasks.Close (Some Leased) e = absurd (cc)
ends-failed tasks.Close (Some Connecting) e = absurd (cc)
ends-failed tasks.Close (Some Checking) e = absurd (cc)
ends-failed tasks.Close (Some (Returned marked)) e = absurd (cc)
ends-failed tasks.Close (Some (Cleaning marked)) e = absurd (cc)
ends-failed tasks.Close (Some Resetting) e = absurd (cc)
ends-failed tasks.Close (Some Closing) e = refl

pub ends-reset : (p : Option Place) → found_is (is_place_of tasks.Reset) p ≡ true → found_is (is_ending_place true) p ≡ true
ends-reset None e = absurd (cc)
ends-reset (Some (Idle times)) e = absurd (cc)
ends-reset (Some Leased) e = absurd (cc)
ends-reset (Some Connecting) e = absurd (cc)
ends-reset (Some Checking) e = absurd (cc)
ends-reset (Some (Returned marked)) e = absurd (cc)
ends-reset (Some (Cleaning marked)) e = absurd (cc)
ends-reset (Some Resetting) e = refl
ends-reset (Some Closing) e = absurd (cc)

pub ends-close : (p : Option Place) → found_is (is_place_of tasks.Close) p ≡ true → (found_is (is_ending_place true) p ≡ true) × (p ≡ Some Resetting → ⊥)
ends-close None e = absurd (cc)
ends-close (Some (Idle times)) e = absurd (cc)
ends-close (Some Leased) e = absurd (cc)
ends-close (Some Connecting) e = absurd (cc)
ends-close (Some Checking) e = absurd (cc)
ends-close (Some (Returned marked)) e = absurd (cc)
ends-close (Some (Cleaning marked)) e = absurd (cc)
ends-close (Some Resetting) e = absurd (cc)
ends-close (Some Closing) e = (refl, λ f. cc)

pub cleans-there : (p : Option Place) → found_is (is_place_of tasks.Clean) p ≡ true → found_is is_cleaning_place p ≡ true
cleans-there None e = absurd (cc)
cleans-there (Some (Idle times)) e = absurd (cc)
cleans-there (Some Leased) e = absurd (cc)
cleans-there (Some Connecting) e = absurd (cc)
cleans-there (Some Checking) e = absurd (cc)
cleans-there (Some (Returned marked)) e = absurd (cc)
cleans-there (Some (Cleaning marked)) e = refl
cleans-there (Some Resetting) e = absurd (cc)
cleans-there (Some Closing) e = absurd (cc)

-- ---- a connection in hand, after its poll ----

module _ {L : Type 0} where
  -- its place
  pub at-place : (task : Task) (e f : ConnEntry L) (p : Pool L) → f.number ≡ e.number → found_is (is_place_of task) (place_at e.number p.state) ≡ true → found_is (is_place_of task) (place_at f.number p.state) ≡ true
  at-place task e f p same at = ap (λ n. found_is (is_place_of task) (place_at n p.state)) same ∙ at

  -- it stays there where no event happens
  pub stays-there : (task : Task) (n : ℕ) (e : ConnEntry L) (p q : Pool L) → e.number ≡ n → Same p q → found_is (is_place_of task) (place_at n p.state) ≡ true → found_is (is_place_of task) (place_at e.number q.state) ≡ true
  stays-there task n e p q number same at =
      ap (λ m. found_is (is_place_of task) (place_at m q.state)) number ∙ ap (λ (s : State). found_is (is_place_of task) (place_at n s)) same.state ∙ at

  -- with another state of its call
  pub out-again : (e f : ConnEntry L) (p : Pool L) (out : IsOut e p) → f.number ≡ e.number → MayWork out.place f.conn → IsOut f p
  out-again e f p out same works = record {
    place = out.place;
    there = ap (λ n. place_at n p.state) same ∙ out.there;
    working = out.working;
    out = ap (λ n. kept_at n p.kept) same ∙ out.out;
    works = works;
  }

  -- its call is open
  pub out-open : (task : Task) (e f : ConnEntry L) (p : Pool L) → IsOut e p → f.number ≡ e.number → found_is (is_place_of task) (place_at e.number p.state) ≡ true → f.conn.pending ≡ Some (kind_for task) → IsOut f p
  out-open task e f p out same at going = out-again e f p out same (inr (going ∙ sym (call-at task (place_at e.number p.state) at out.place out.there)))

  -- none is
  pub out-still : (e f : ConnEntry L) (p : Pool L) → IsOut e p → f.number ≡ e.number → IsStill f.conn → IsOut f p
  out-still e f p out same still = out-again e f p out same (inl still)

  -- its call failed
  pub done-failed : (task : Task) (e f : ConnEntry L) (p : Pool L) → IsOut e p → f.number ≡ e.number → found_is (is_place_of task) (place_at e.number p.state) ≡ true → IsDone false f p
  done-failed task e f p out same at = record {
    place = ends-failed task (place_at f.number p.state) (at-place task e f p same at);
    out = ap (λ n. kept_at n p.kept) same ∙ out.out;
    fit = λ ok. absurd (cc);
  }

  -- a reset or a close was answered
  pub done-reset : (e : ConnEntry L) (p : Pool L) → IsOut e p → found_is (is_place_of tasks.Reset) (place_at e.number p.state) ≡ true → IsFit e.conn → IsDone true e p
  done-reset e p out at fit = record { place = ends-reset (place_at e.number p.state) at; out = out.out; fit = λ ok there. fit }

  pub done-close : (e : ConnEntry L) (p : Pool L) → IsOut e p → found_is (is_place_of tasks.Close) (place_at e.number p.state) ≡ true → IsDone true e p
  done-close e p out at =
      let ends = ends-close (place_at e.number p.state) at in
      record { place = ends.0; out = out.out; fit = λ ok there. absurd (ends.1 there) }

  pub cleaned-out : (e : ConnEntry L) (p : Pool L) → IsOut e p → found_is (is_place_of tasks.Clean) (place_at e.number p.state) ≡ true → IsCleaned e.number p
  cleaned-out e p out at = record { place = cleans-there (place_at e.number p.state) at; out = out.out }

-- ---- numbers ----

counted : (test : Place → Bool) (o : Option Connection) → found_is test (option_map (λ c. c.place) o) ≡ true → (c : Connection) × (o ≡ Some c)
counted test None e = absurd (cc)
counted test (Some c) e = (c, refl)

-- the number of a counted connection has one above it
below-last : (test : Place → Bool) (n : ℕ) (s : State) → IsSound s → found_is test (place_at n s) ≡ true → n < 2 ^ 64 - 1
below-last test n s h e =
    let y = counted test (find (has_number n) s.connections) e in
    let number : y.0.number ≡ n = eqb-true y.0.number n (found-passes (has_number n) s.connections y.0 y.1) in
    elim (nat_le s.next_number n) as (λ b. nat_le s.next_number n ≡ b → n < 2 ^ 64 - 1) [
      | true ↦ λ t.
          let un : one (is_unnumbered s.next_number y.0) ≡ 1 = ap (λ k. one (nat_le s.next_number k)) number ∙ ap one t in
          absurd (omega (arith, un, h.numbered, count-found (is_unnumbered s.next_number) (has_number n) s.connections y.0 y.1))
      | false ↦ λ t. let lt : n < s.next_number = leb-false s.next_number n t in omega (arith, h.numbers_left)
    ] refl

pub next-place : (task : Task) (from : ℕ) (s : State) (o : Option ℕ) → MatchOption o (IsNoneAt (kind_at task) from s) (λ n. IsNextAt (kind_at task) from n s) → IfSome o (λ n. found_is (is_place_of task) (place_at n s) ≡ true)
next-place task from s None w = tt
next-place task from s (Some n) w = w.there

pub next-below : (task : Task) (from : ℕ) (s : State) (o : Option ℕ) → IsSound s → MatchOption o (IsNoneAt (kind_at task) from s) (λ n. IsNextAt (kind_at task) from n s) → IfSome o (λ n. n < 2 ^ 64 - 1)
next-below task from s None h w = tt
next-below task from s (Some n) h w = below-last (is_place_of task) n s h w.there

-- where nothing is at work, no connection is at the place of a task
pub none-works : (task : Task) (from : ℕ) (s : State) → working s ≡ 0 → IsNoneAt (kind_at task) from s
none-works task from s zero = record { none = λ n above. not-there n }
  where
    not-there : (n : ℕ) → is_at (kind_at task) n s ≡ false
    not-there n =
        elim (is_at (kind_at task) n s) as (λ b. is_at (kind_at task) n s ≡ b → b ≡ false) [
          | true ↦ λ e.
              let y = counted (is_place_of task) (find (has_number n) s.connections) e in
              let there : is_at_work y.0 ≡ true = subst (λ o. found_is is_working_place (option_map (λ c. c.place) o) ≡ true) y.1 (works-there task (place_at n s) e) in
              absurd (omega (arith, zero, ap one there, count-found is_at_work (has_number n) s.connections y.0 y.1))
          | false ↦ λ e. refl
        ] refl
