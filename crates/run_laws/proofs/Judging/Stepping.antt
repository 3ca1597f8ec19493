-- A step at its number: what is there before and after it, and its line.
use Rattle.std.proofs.Common.{◌≡◌, ◌≤◌, ℕ, ◌==◌, List, [], ◌∷◌, length, slice_get, map, Bool, true, false, Option, Some, None, refl, sym, ap, ◌∙◌, subst, if◌then◌else◌}
use Rattle.std.proofs.lemmas.Bool.{eq-eqb}
use Rattle.my_value.specs.RowParts.{RowParts}
use Rattle.my_statements.specs.Prepared.{StatementView}
use Rattle.my_grammar.specs.declared.login.Login.{Login}
use Rattle.my_link.specs.declared.dialer.DialItem.{DialItem}
use Rattle.my_link.specs.declared.met.Met.{Met}
use Rattle.my_link.specs.Looks.{Looks}
use Rattle.my_link.specs.Moves.{Stop as LinkStop}
use Rattle.my_reading.specs.declared.answer.Answer.TheVariants as answers
use Rattle.my_reading.specs.declared.call.Call.{Call}
use Rattle.my_reading.specs.declared.facts.Facts.{Facts}
use Rattle.my_reading.specs.Calls.{kind_of}
use Rattle.my_reading.specs.Endings.{AreCalls}
use Rattle.my_reading.specs.Errors.{connection_closed}
use Rattle.my_reading.specs.Place.{facts_at}
use Rattle.my_reading.specs.Reading.{reading}
use Rattle.my_reading.specs.Tape.{Tape}
use Rattle.my_script.specs.declared.aim.Aim.{Aim}
use Rattle.my_script.specs.declared.step.Step.{Step}
use Rattle.my_script.specs.Streams.{target}
use Rattle.my_script.specs.declared.transcript.Outcome.{Outcome}
use Rattle.my_script.specs.declared.transcript.Outcome.TheVariants as outcomes
use Rattle.my_script.specs.declared.transcript.TapeCall.{TapeCall as ShownCall}
use Rattle.my_script.specs.declared.transcript.Use.{Use}
use Rattle.my_run_judge.specs.declared.act.Act.{Act}
use Rattle.my_run_judge.specs.declared.act.Act.TheVariants.{Skips, Polls, Ends}
use Rattle.my_run_judge.specs.declared.act.Ground.{Ground}
use Rattle.my_run_judge.specs.declared.act.Status.{Status}
use Rattle.my_run_judge.specs.declared.act.Status.TheVariants as status
use Rattle.my_run_judge.specs.Acts.{act_here, act_of, act_there, at_dialing, at_gathering, at_idle, at_open, polled}
use Rattle.my_client.specs.declared.poll.After.{After}
use Rattle.my_client.specs.declared.poll.After.TheVariants as after
use Rattle.my_client.specs.declared.tape.Said.TheVariants as says
use Rattle.my_client.specs.Made.{has_closed}
use Rattle.my_client.specs.Kept.{Asked, Kept, nothing_kept, made_of, asking, asked_by, ended_by}
use Rattle.my_session.specs.Sessions.{is_refused}
use Rattle.my_steps.specs.Grows.{shown, IsClosed, IsRefused, PolledOnce}
use Rattle.my_steps.specs.Handle.{Handle, Absent, Dialing, Joined}
use Rattle.my_run_judge.specs.declared.walk.Spot.{Spot}
use Rattle.my_run_judge.specs.Lines.{ActRight, IsBegun, IsShownAt, MayEnd, after_last_poll, IsToldBy, after_act, after_polls, begun_in, first_of, ground_at, is_pending}
use Rattle.my_run_judge.specs.Walks.{Walk, with_status}
use Rattle.run_laws.proofs.Polls.{PollEnds, Polled, polled_of}
use Rattle.run_laws.proofs.Judging.Going.{GoesOn, before_begin, before_end, call_here, call_of, done_by, shown_call, shown_tape}
use Rattle.run_laws.proofs.Judging.Tying.{AtWalk, at_begin, at_end, is_ended}
use Rattle.run_laws.proofs.Judging.Meeting.{ShownBy}
use Rattle.run_laws.proofs.Judging.Polling.{HasRest, LastSo, last_poll, poll_back}
use Rattle.run_laws.proofs.Judging.Gathering.{GathersAt, HasTape, gathers}

-- what the walk takes a connection for
abbrev pub OpenAs : Tape → Asked → Option (List RowParts) → Spot → Type 0
OpenAs t a None s = s.status ≡ status.Open
OpenAs t a (Some rows) s = (first : ℕ) × (first ≤ s.next) × (s.status ≡ status.Gathers first) × GathersAt t a first s.next

abbrev pub Spotted : Tape → Bool → Option Asked → Spot → Type 0
Spotted t false q s = (s.status ≡ status.Absent) × (q ≡ None)
Spotted t true None s = s.status ≡ status.Idle
Spotted t true (Some a) s = OpenAs t a a.rows s

abbrev pub Tied : Login → Tape → Handle → Walk → Type 0
Tied login t Absent w = (w.spot.status ≡ status.Absent) × AtWalk login nothing_kept w
Tied login t (Dialing left) w = (w.spot.status ≡ status.Dialing) × AtWalk login nothing_kept w
Tied login t (Joined there k x) w = Spotted t there k.pending w.spot × AtWalk login k w

-- the line does what its act says, and is right
pub record LineSo (login : Login) (t : Tape) (n : ℕ) (aim : Aim) (statement : Option StatementView) (h : Handle) (step : Step) (o : Outcome) (us : List Use) (w : Walk) : Type 0 where
  pub act : Act
  pub act_is : act_of aim w.spot.status n w.spot.next (ground_at w) step o (length us) ≡ act
  pub right : ActRight login n (shown_tape t) statement w step o us act
  pub tied : Tied login t h (after_act login (shown_tape t) w o us act)

pub record StepSo (login : Login) (t : Tape) (n : ℕ) (aim : Aim) (statement : Option StatementView) (h made : Handle) (step : Step) (o : Outcome) (us : List Use) : Type 0 where
  pub back : HasTape t h
  pub forth : (w : Walk) → Tied login t h w → LineSo login t n aim statement made step o us w

-- a connection that was dialed: the step is at its number
pub same_number : (n : ℕ) → (n == n) ≡ true
same_number n = eq-eqb n n refl

abbrev pub is_there : Status → Bool
is_there (status.Ahead k) = false
is_there s = true

pub here_act : (aim : Aim) (s r : Status) (n next : ℕ) (base : Ground) (step : Step) (o : Outcome) (uses : ℕ) → is_there s ≡ true → r ≡ s → target step ≡ Some n
    → act_of aim r n next base step o uses ≡ act_here aim s n next base step o uses
here_act aim s r n next base step o uses there e named =
    ap (λ z. act_of aim z n next base step o uses) e ∙ by_status s there
  where
    by_status : (z : Status) → is_there z ≡ true → act_of aim z n next base step o uses ≡ act_here aim z n next base step o uses
    by_status (status.Ahead k) i = cc
    by_status status.Absent i = ap (act_there aim status.Absent n next base step o uses) named ∙ ap (λ b. if b then act_here aim status.Absent n next base step o uses else Skips status.Absent) (same_number n)
    by_status status.Dialing i = ap (act_there aim status.Dialing n next base step o uses) named ∙ ap (λ b. if b then act_here aim status.Dialing n next base step o uses else Skips status.Dialing) (same_number n)
    by_status status.Idle i = ap (act_there aim status.Idle n next base step o uses) named ∙ ap (λ b. if b then act_here aim status.Idle n next base step o uses else Skips status.Idle) (same_number n)
    by_status status.Open i = ap (act_there aim status.Open n next base step o uses) named ∙ ap (λ b. if b then act_here aim status.Open n next base step o uses else Skips status.Open) (same_number n)
    by_status (status.Gathers first) i = ap (act_there aim (status.Gathers first) n next base step o uses) named ∙ ap (λ b. if b then act_here aim (status.Gathers first) n next base step o uses else Skips (status.Gathers first)) (same_number n)

module _ (login : Login) (t : Tape) (all : AreCalls login (reading login t).calls) (n : ℕ) (aim : Aim) (statement : Option StatementView) (step : Step) (named : target step ≡ Some n) where
  -- a step that is refused
  pub refused_line : (s : Status) (h : Handle) (w : Walk) → is_there s ≡ true → w.spot.status ≡ s
      → act_here aim s n w.spot.next (ground_at w) step outcomes.NoSuchHandle 0 ≡ Skips s → Tied login t h (with_status s w)
      → LineSo login t n aim statement h step outcomes.NoSuchHandle [] w
  refused_line s h w there e acts tied = record {
    act = Skips s;
    act_is = here_act aim s w.spot.status n w.spot.next (ground_at w) step outcomes.NoSuchHandle 0 there e named ∙ acts;
    right = tt;
    tied = tied;
  }

  pub refused_so : (h made : Handle) (o : Outcome) (us : List Use) → HasTape t made → IsRefused h o us made
      → ((w : Walk) → Tied login t h w → LineSo login t n aim statement h step outcomes.NoSuchHandle [] w) → StepSo login t n aim statement h made step o us
  refused_so h made o us has r forth = record {
    back = subst (HasTape t) r.same has;
    forth = λ w tied. subst (λ (z : Handle). LineSo login t n aim statement z step o us w) (sym r.same)
        (subst (λ (vs : List Use). LineSo login t n aim statement h step o vs w) (sym r.uses) (subst (λ (z : Outcome). LineSo login t n aim statement h step z [] w) (sym r.outcome) (forth w tied)));
  }

  -- where nothing is dialed, or a dial wasn't ready, or nothing is there any more
  pub absent_so : (made : Handle) (o : Outcome) (us : List Use) → HasTape t made → IsRefused Absent o us made → StepSo login t n aim statement Absent made step o us
  absent_so made o us has r = refused_so Absent made o us has r (λ w tied. refused_line status.Absent Absent w refl tied.0 refl (refl, tied.1))

  pub dialing_so : (left : Option (List DialItem)) (made : Handle) (o : Outcome) (us : List Use) → at_dialing n step outcomes.NoSuchHandle 0 ≡ Skips status.Dialing → HasTape t made → IsRefused (Dialing left) o us made → StepSo login t n aim statement (Dialing left) made step o us
  dialing_so left made o us acts has r = refused_so (Dialing left) made o us has r (λ w tied. refused_line status.Dialing (Dialing left) w refl tied.0 acts (refl, tied.1))

  pub gone_so : (k : Kept) (x : Looks) (made : Handle) (o : Outcome) (us : List Use) → HasTape t made → IsRefused (Joined false k x) o us made → StepSo login t n aim statement (Joined false k x) made step o us
  gone_so k x made o us has r = refused_so (Joined false k x) made o us has r (λ w tied. refused_line status.Absent (Joined false k x) w refl tied.0.0 refl ((refl, tied.0.1), tied.1))

  -- no call is open, or one is
  pub idle_so : (k : Kept) (x : Looks) (made : Handle) (o : Outcome) (us : List Use) → k.pending ≡ None → ((base : Ground) (next : ℕ) → at_idle base next step outcomes.NoSuchHandle 0 ≡ Skips status.Idle)
      → HasTape t made → IsRefused (Joined true k x) o us made → StepSo login t n aim statement (Joined true k x) made step o us
  idle_so k x made o us none acts has r = refused_so (Joined true k x) made o us has r
      (λ w tied. let e : w.spot.status ≡ status.Idle = subst (λ q. Spotted t true q w.spot) none tied.0 in
      refused_line status.Idle (Joined true k x) w refl e (acts (ground_at w) w.spot.next) (subst (λ q. Spotted t true q (with_status status.Idle w).spot) (sym none) refl, tied.1))

  pub open_so : (k : Kept) (x : Looks) (a : Asked) (made : Handle) (o : Outcome) (us : List Use) → k.pending ≡ Some a → ((next : ℕ) → at_open aim n next step outcomes.NoSuchHandle 0 ≡ Skips status.Open)
      → ((first next : ℕ) → at_gathering first next step outcomes.NoSuchHandle 0 ≡ Skips (status.Gathers first))
      → HasTape t made → IsRefused (Joined true k x) o us made → StepSo login t n aim statement (Joined true k x) made step o us
  open_so k x a made o us some opens gathers has r = refused_so (Joined true k x) made o us has r
      (λ w tied. by_rows a.rows w (λ v. subst (λ q. Spotted t true q v) (sym some)) (subst (λ q. Spotted t true q w.spot) some tied.0) tied.1)
    where
      by_rows : (rows : Option (List RowParts)) (w : Walk) → ((v : Spot) → OpenAs t a rows v → Spotted t true k.pending v) → OpenAs t a rows w.spot → AtWalk login k w → LineSo login t n aim statement (Joined true k x) step outcomes.NoSuchHandle [] w
      by_rows None w to e at = refused_line status.Open (Joined true k x) w refl e (opens w.spot.next) (to (with_status status.Open w).spot refl, at)
      by_rows (Some rows) w to (first, low, e, g) at = refused_line (status.Gathers first) (Joined true k x) w refl e (gathers first w.spot.next) (to (with_status (status.Gathers first) w).spot (first, low, refl, g), at)

  -- a closed connection refuses a call
  module _ (call : Call) where
    pub closed_so : (k : Kept) (x : Looks) (made : Handle) (o : Outcome) (us : List Use) → k.pending ≡ None → HasTape t made → IsClosed k x call o us made
        → ((w : Walk) → AtWalk login k w → begun_in statement w step ≡ Some call)
        → ((w : Walk) → AtWalk login k w → (e : Outcome) → o ≡ e → at_idle (ground_at w) w.spot.next step (outcomes.Failed connection_closed) 0 ≡ Ends status.Idle)
        → StepSo login t n aim statement (Joined true k x) made step o us
    closed_so k x made o us none has r begun acts =
        let a = asked_by k call in
        let f = asking k call None in
        let said = says.Failed connection_closed in
        let h : HasRest t (ended_by f a said) = subst (HasTape t) r.left has in
        let g : GoesOn t f (call_of (done_by a said) ∷ h.0) = before_end t f a said h.0 refl h.1 in
        record {
          back = (call_of (done_by a said) ∷ h.0, before_begin t k call None (call_of (done_by a said) ∷ h.0) none g);
          forth = λ w tied.
              let e : w.spot.status ≡ status.Idle = subst (λ q. Spotted t true q w.spot) none tied.0 in
              let at : AtWalk login f w = at_begin login k call None w none tied.1 in
              let here = call_here t f (call_of (done_by a said)) h.0 g w.spot.next at.next_is in
              subst (λ (z : Handle). LineSo login t n aim statement z step o us w) (sym r.left)
              (subst (λ (vs : List Use). LineSo login t n aim statement (Joined true (ended_by f a said) x) step o vs w) (sym r.uses)
              (subst (λ (z : Outcome). LineSo login t n aim statement (Joined true (ended_by f a said) x) step z [] w) (sym r.outcome) (record {
                act = Ends status.Idle;
                act_is = here_act aim status.Idle w.spot.status n w.spot.next (ground_at w) step (outcomes.Failed connection_closed) 0 refl e named ∙ acts w tied.1 o refl;
                right = (
                  subst (λ b. IsBegun b (slice_get (map shown_call t.calls) w.spot.next)) (sym (begun w tied.1)) (subst (IsBegun (Some call)) (sym here) refl),
                  subst (λ c. IsShownAt (outcomes.Failed connection_closed) c []) (sym here) (refl, tt),
                  is_ended login t all f a said false h.0 w refl h.1 at tt,
                );
                tied = (refl, at_end login t all f a said false h.0 w refl h.1 at tt);
              })));
        }

  -- the open call is polled once
  pub shown_acts : (p : After) → polled (shown p) ≡ Polls (if is_pending (shown p) then status.Open else status.Idle)
  shown_acts after.Pending = refl
  shown_acts (after.Answered answers.Ready) = refl
  shown_acts (after.Answered (answers.Row row)) = refl
  shown_acts (after.Answered answers.SetEnd) = refl
  shown_acts (after.Answered answers.NoSet) = refl
  shown_acts (after.Answered (answers.Stmt prepared)) = refl
  shown_acts (after.Answered (answers.Flag flag)) = refl
  shown_acts (after.Failed e) = refl

  pub shown_by : (p : After) (before : List ShownCall) → ShownBy (shown p) before p
  shown_by after.Pending before = refl
  shown_by (after.Answered answers.Ready) before = (refl, refl)
  shown_by (after.Answered (answers.Row row)) before = (refl, refl)
  shown_by (after.Answered answers.SetEnd) before = (refl, refl)
  shown_by (after.Answered answers.NoSet) before = (refl, refl)
  shown_by (after.Answered (answers.Stmt prepared)) before = (refl, refl)
  shown_by (after.Answered (answers.Flag flag)) before = (refl, refl)
  shown_by (after.Failed e) before = (refl, refl)

  pub shown_told : (p : After) (facts : Facts) → IsToldBy facts (shown p)
  shown_told after.Pending facts = tt
  shown_told (after.Answered answers.Ready) facts = tt
  shown_told (after.Answered (answers.Row row)) facts = tt
  shown_told (after.Answered answers.SetEnd) facts = tt
  shown_told (after.Answered answers.NoSet) facts = tt
  shown_told (after.Answered (answers.Stmt prepared)) facts = tt
  shown_told (after.Answered (answers.Flag flag)) facts = tt
  shown_told (after.Failed e) facts = tt

  pub shown_spot : (a : Asked) (f end : Kept) (u : Met) (stop : LinkStop) (p : After) → a.rows ≡ None → f.pending ≡ Some a → PollEnds login a f u stop p end
      → (s : Spot) → Spotted t true end.pending (record { status = (if is_pending (shown p) then status.Open else status.Idle); next = s.next; from = s.from; taken = s.taken })
  shown_spot a f end u stop after.Pending nr fp e s =
      subst (λ q. Spotted t true q (record { status = status.Open; next = s.next; from = s.from; taken = s.taken })) (sym (ap (λ (z : Kept). z.pending) e.0 ∙ fp))
      (subst (λ (rs : Option (List RowParts)). OpenAs t a rs (record { status = status.Open; next = s.next; from = s.from; taken = s.taken })) (sym nr) refl)
  shown_spot a f end u stop (after.Answered answers.Ready) nr fp e s = subst (λ q. Spotted t true q (record { status = status.Idle; next = s.next; from = s.from; taken = s.taken })) (sym (ap (λ (z : Kept). z.pending) e.0)) refl
  shown_spot a f end u stop (after.Answered (answers.Row row)) nr fp e s = subst (λ q. Spotted t true q (record { status = status.Idle; next = s.next; from = s.from; taken = s.taken })) (sym (ap (λ (z : Kept). z.pending) e.0)) refl
  shown_spot a f end u stop (after.Answered answers.SetEnd) nr fp e s = subst (λ q. Spotted t true q (record { status = status.Idle; next = s.next; from = s.from; taken = s.taken })) (sym (ap (λ (z : Kept). z.pending) e.0)) refl
  shown_spot a f end u stop (after.Answered answers.NoSet) nr fp e s = subst (λ q. Spotted t true q (record { status = status.Idle; next = s.next; from = s.from; taken = s.taken })) (sym (ap (λ (z : Kept). z.pending) e.0)) refl
  shown_spot a f end u stop (after.Answered (answers.Stmt prepared)) nr fp e s = subst (λ q. Spotted t true q (record { status = status.Idle; next = s.next; from = s.from; taken = s.taken })) (sym (ap (λ (z : Kept). z.pending) e.0)) refl
  shown_spot a f end u stop (after.Answered (answers.Flag flag)) nr fp e s = subst (λ q. Spotted t true q (record { status = status.Idle; next = s.next; from = s.from; taken = s.taken })) (sym (ap (λ (z : Kept). z.pending) e.0)) refl
  shown_spot a f end u stop (after.Failed x) nr fp e s = subst (λ q. Spotted t true q (record { status = status.Idle; next = s.next; from = s.from; taken = s.taken })) (sym (ap (λ (z : Kept). z.pending) e.0)) refl

  pub record OnceSo (k : Kept) (made : Handle) (o : Outcome) (us : List Use) : Type 0 where
    pub back : HasRest t k
    pub forth : (w : Walk) → AtWalk login k w → act_of aim w.spot.status n w.spot.next (ground_at w) step o 1 ≡ polled o
        → IsBegun (begun_in statement w step) (slice_get (map shown_call t.calls) w.spot.next) → LineSo login t n aim statement made step o us w

  pub once_so : (k : Kept) (a : Asked) (x : Looks) (made : Handle) (o : Outcome) (us : List Use) → k.pending ≡ Some a → is_refused (has_closed (made_of k.calls)) (kind_of a.call) ≡ false → a.rows ≡ None → HasTape t made → (r : PolledOnce login n a k x o us made) → MayEnd (shown r.after) a.call → OnceSo k made o us
  once_so k a x made o us kp live nr has r may =
      let here : Polled login a k r.used.met r.after r.end = polled_of kp r.polled in
      let h : HasRest t r.end = subst (HasTape t) r.left has in
      record {
        back = poll_back login t all a k r.end r.used r.after kp here h;
        forth = λ w at acts begun.
            let s : LastSo login t all a k r.end r.used r.after kp here h n r.number w at (shown r.after) (first_of w.spot.status w.spot.next) =
            last_poll login t all a k r.end r.used r.after kp here h n r.number w at live (shown r.after) (first_of w.spot.status w.spot.next) may (shown_by r.after _) in
            subst (λ (z : Handle). LineSo login t n aim statement z step o us w) (sym r.left)
            (subst (λ (vs : List Use). LineSo login t n aim statement (Joined true r.end r.link) step o vs w) (sym r.uses)
            (subst (λ (z : Outcome). LineSo login t n aim statement (Joined true r.end r.link) step z (r.used ∷ []) w) (sym r.outcome) (record {
              act = Polls (if is_pending (shown r.after) then status.Open else status.Idle);
              act_is = subst (λ (z : Outcome). act_of aim w.spot.status n w.spot.next (ground_at w) step z 1 ≡ polled z) r.outcome acts ∙ shown_acts r.after;
              right = (begun, s.right, shown_told r.after (facts_at login (after_polls login (shown_tape t) (shown r.after) (r.used ∷ []) w).place));
              tied = (shown_spot a here.following r.end r.used.met here.stop r.after nr here.pending here.ends (after_last_poll login (shown_tape t) (shown r.after) r.used w).spot, s.after_is);
            })));
      }
