-- A step that dials, goes on with what is open, or cancels it.
use Rattle.std.proofs.Common.{◌≡◌, ℕ, ◌==◌, List, [], ◌∷◌, length, map, Bool, true, false, not, Option, Some, None, Ok, refl, sym, ap, ◌∙◌, subst, arith, if◌then◌else◌}
use Rattle.std.proofs.lemmas.Bool.Decides.{nat_tests}
use Rattle.my_handshake.specs.Version.{version_of}
use Rattle.my_value.specs.RowParts.{RowParts}
use Rattle.my_statements.specs.Prepared.{StatementView}
use Rattle.my_grammar.specs.declared.login.Login.{Login}
use Rattle.my_link.specs.declared.dialer.DialItem.{DialItem}
use Rattle.my_link.specs.declared.link.ReadItem.{ReadItem}
use Rattle.my_link.specs.declared.link.WriteItem.{WriteItem}
use Rattle.my_link.specs.Looks.{Looks}
use Rattle.my_reading.specs.declared.answer.Answer.{Answer}
use Rattle.my_reading.specs.declared.answer.Answer.TheVariants as answers
use Rattle.my_reading.specs.declared.call.Call.{Call}
use Rattle.my_reading.specs.declared.call.Call.TheVariants as calls
use Rattle.my_reading.specs.Calls.{kind_of, is_connect}
use Rattle.my_reading.specs.Endings.{AreCalls, closes_cancelled}
use Rattle.my_reading.specs.Place.{Place, facts_at}
use Rattle.my_reading.specs.Reading.{reading, halt_of}
use Rattle.my_reading.specs.Course.{Halt}
use Rattle.my_reading.specs.Tape.{Tape}
use Rattle.my_reading.specs.Told.{told}
use Rattle.my_session.specs.Fits.{may_be}
use Rattle.my_script.specs.declared.aim.Aim.{Aim}
use Rattle.my_script.specs.declared.step.Step.{Step}
use Rattle.my_script.specs.Streams.{is_skip}
use Rattle.my_script.specs.declared.step.Step.TheVariants as steps
use Rattle.my_script.specs.declared.transcript.Outcome.{Outcome}
use Rattle.my_script.specs.declared.transcript.Outcome.TheVariants as outcomes
use Rattle.my_script.specs.declared.transcript.Use.{Use}
use Rattle.my_run_judge.specs.declared.act.Act.{Act}
use Rattle.my_run_judge.specs.declared.act.Act.TheVariants.{Wrong, Skips, Connects, Polls, Cancels}
use Rattle.my_run_judge.specs.declared.act.Act.TheVariants as acts
use Rattle.my_run_judge.specs.declared.act.Status.{Status}
use Rattle.my_run_judge.specs.declared.act.Status.TheVariants as status
use Rattle.my_run_judge.specs.Acts.{act_of, after_cancel, connecting, dialed, gathered, gathering, passed, polled}
use Rattle.my_client.specs.declared.poll.After.{After}
use Rattle.my_link.specs.World.{Plans}
use Rattle.my_client.specs.declared.poll.After.TheVariants as after
use Rattle.my_client.specs.declared.tape.DoneCall.{DoneCall}
use Rattle.my_client.specs.declared.tape.Said.TheVariants as says
use Rattle.my_client.specs.Made.{has_closed}
use Rattle.my_client.specs.Kept.{Asked, Kept, nothing_kept, made_of, ended_by, first_asked, first_kept, told_by}
use Rattle.my_session.specs.Sessions.{is_refused}
use Rattle.my_client.specs.Reads.{calls_kept, facts_kept, place_kept}
use Rattle.my_steps.specs.Grows.{Cancels as CancelsAt, CancelsWith, ConnectShows, Connects as ConnectsTo, Dials, Gathers, GoesOn, GoesOnWith, IsCancelled, IsDropped, PollsCall, PollsOn, shown}
use Rattle.my_steps.specs.Grows as grows
use Rattle.my_steps.specs.Handle.{Handle, Absent, Dialing, Joined}
use Rattle.my_steps.specs.Sums.{held_use, failed_use}
use Rattle.run_laws.proofs.Connecting.{IsOnce, connects_once, kept_calls, left_of, none_connects, right_of}
use Rattle.my_run_judge.specs.declared.walk.Spot.{Spot}
use Rattle.my_run_judge.specs.Lines.{AreRows, IsToldBy, LastPoll, after_last_poll, calls_before, first_of, ground_at, is_unanswered}
use Rattle.my_run_judge.specs.Walks.{Walk, ended, with_status}
use Rattle.run_laws.proofs.Polls.{Polled, polled_of}
use Rattle.run_laws.proofs.Judging.Failing.{IsLive}
use Rattle.run_laws.proofs.Judging.Going.{before_end, call_here, call_of, done_by, own_span, shown_tape}
use Rattle.run_laws.proofs.Judging.Tying.{AtWalk, at_begin, at_end, is_ended, place_at_rest, place_open, same_halt}
use Rattle.run_laws.proofs.Judging.Polling.{HasRest, LastSo, begins_here, last_poll, may_end, poll_back}
use Rattle.run_laws.proofs.Judging.Gathering.{GathersSo, HasTape, gathers}
use Rattle.run_laws.proofs.Judging.Stepping.{LineSo, OnceSo, OpenAs, Spotted, StepSo, Tied, absent_so, gone_so, here_act, idle_so, once_so, same_number}
use Rattle.run_laws.proofs.Judging.Calling.{gathered_line}
use Rattle.run_laws.proofs.Judging.Reading.{SkipsSo, not_one, skip_call, skips_so}

-- the open call connects exactly where it is the first one
none_last : (ds : List DoneCall) (a : Asked) → none_connects (map (λ c. c.call) (calls_kept ds (Some a))) ≡ true → is_connect (kind_of a.call) ≡ false
none_last [] a e = not_true (is_connect (kind_of a.call)) (left_of (not (is_connect (kind_of a.call))) true e)
  where
    not_true : (b : Bool) → not b ≡ true → b ≡ false
    not_true true e = cc
    not_true false e = refl
none_last (d ∷ ds) a e = none_last ds a (right_of (not (is_connect (kind_of d.call))) _ e)

first_connects : (ds : List DoneCall) (a : Asked) → connects_once (map (λ c. c.call) (calls_kept ds (Some a))) ≡ true → (length ds == 0) ≡ is_connect (kind_of a.call)
first_connects [] a e = sym (left_of (is_connect (kind_of a.call)) true e)
first_connects (d ∷ ds) a e =
    let c : length (d ∷ ds) == 0 ≡ false = grind (arith, nat_tests) in
    c ∙ sym (none_last ds a (right_of (is_connect (kind_of d.call)) _ e))

connects_first_call : (k : Kept) (a : Asked) → k.pending ≡ Some a → connects_once (kept_calls k) ≡ true → (length k.calls == 0) ≡ is_connect (kind_of a.call)
connects_first_call k a some e = first_connects k.calls a (subst (λ q. connects_once (map (λ c. c.call) (calls_kept k.calls q)) ≡ true) some e)

-- only connecting connects, and it returns that it is done
is_connecting : (call : Call) → is_connect (kind_of call) ≡ true → call ≡ calls.Connect
is_connecting calls.Connect e = refl
is_connecting _ e = cc

made_ready : (answer : Answer) → may_be (kind_of calls.Connect) (told answer) ≡ true → answer ≡ answers.Ready
made_ready answers.Ready e = refl
made_ready (answers.Row row) e = cc
made_ready answers.SetEnd e = cc
made_ready answers.NoSet e = cc
made_ready (answers.Stmt prepared) e = cc
made_ready (answers.Flag flag) e = cc

module _ (login : Login) (t : Tape) (all : AreCalls login (reading login t).calls) (n : ℕ) (aim : Aim) (statement : Option StatementView) where
  -- the handshake is polled
  record Joins (o : Outcome) (used : Use) (made : Handle) (w : Walk) (first : ℕ) : Type 0 where
    pub right : LastPoll login n (shown_tape t) o first used w
    pub told : IsToldBy (facts_at login (after_last_poll login (shown_tape t) o used w).place) o
    pub left : Status
    pub act_is : (act : Status → Act) → connecting n o act ≡ act left
    pub tied : Tied login t made (with_status left (after_last_poll login (shown_tape t) o used w))

  record JoinsSo (k : Kept) (a : Asked) (made : Handle) (o : Outcome) (used : Use) : Type 0 where
    pub back : HasRest t k
    pub forth : (w : Walk) → AtWalk login k w → a.rows ≡ None → (first : ℕ) → Joins o used made w first

  module _ (k : Kept) (a : Asked) (made : Handle) (o : Outcome) (used : Use) (end : Kept) (link : Looks) (kp : k.pending ≡ Some a) (live : has_closed (made_of k.calls) ≡ false) (con : a.call ≡ calls.Connect) (has : HasTape t made) (number : used.number ≡ n) where
    has_end : (p : After) → ConnectShows login n p end link o made → HasRest t end
    has_end after.Pending s = subst (HasTape t) s.1 has
    has_end (after.Answered answer) s = subst (HasTape t) s.1 has
    has_end (after.Failed e) s = subst (HasTape t) s.1 has

    abbrev unrefused : is_refused (has_closed (made_of k.calls)) (kind_of a.call) ≡ false
    unrefused = ap (λ b. is_refused b (kind_of a.call)) live

    joined_by : (p : After) → Polled login a k used.met p end → ConnectShows login n p end link o made → JoinsSo k a made o used
    joined_by after.Pending polled s = let h = has_end after.Pending s in record {
      back = poll_back login t all a k end used after.Pending kp polled h;
      forth = λ w at nr first. subst (λ (z : Outcome). Joins z used made w first) (sym s.0) (subst (λ (z : Handle). Joins outcomes.Pending used z w first) (sym s.1)
          (let l : LastSo login t all a k end used after.Pending kp polled h n number w at outcomes.Pending first = last_poll login t all a k end used after.Pending kp polled h n number w at unrefused outcomes.Pending first tt refl in
          record {
            right = l.right;
            told = tt;
            left = status.Open;
            act_is = λ act. refl;
            tied = (
              subst (λ q. Spotted t true q (with_status status.Open (after_last_poll login (shown_tape t) outcomes.Pending used w)).spot) (sym (ap (λ (z : Kept). z.pending) polled.ends.0 ∙ polled.pending))
                  (subst (λ (rs : Option (List RowParts)). OpenAs t a rs (with_status status.Open (after_last_poll login (shown_tape t) outcomes.Pending used w)).spot) (sym nr) refl),
              l.after_is,
            );
          }));
    }
    joined_by (after.Answered answer) polled s = let h = has_end (after.Answered answer) s in record {
      back = poll_back login t all a k end used (after.Answered answer) kp polled h;
      forth = λ w at nr first.
          let facts = facts_kept login end in
          let z : Outcome = outcomes.Connected n facts.connection (version_of facts.version) in
          let none : end.pending ≡ None = ap (λ (y : Kept). y.pending) polled.ends.0 in
          let ready : answer ≡ answers.Ready = made_ready answer (subst (λ c. may_be (kind_of c) (told answer) ≡ true) con polled.ends.2) in
          subst (λ (y : Outcome). Joins y used made w first) (sym s.0) (subst (λ (y : Handle). Joins z used y w first) (sym s.1)
          (let l : LastSo login t all a k end used (after.Answered answer) kp polled h n number w at z first = last_poll login t all a k end used (after.Answered answer) kp polled h n number w at unrefused z first tt (refl, ap (λ y. Some (Ok y)) ready) in
          let here : place_kept login end ≡ (after_last_poll login (shown_tape t) z used w).place = place_at_rest login end _ (after_last_poll login (shown_tape t) z used w).place none l.after_is.reads in
          record {
            right = l.right;
            told = (ap (λ (p : Place). (facts_at login p).connection) here, ap (λ (p : Place). version_of (facts_at login p).version) here);
            left = status.Idle;
            act_is = λ act. ap (λ b. if b then act status.Idle else Wrong) (same_number n);
            tied = (subst (λ q. Spotted t true q (with_status status.Idle (after_last_poll login (shown_tape t) z used w)).spot) (sym none) refl, l.after_is);
          }));
    }
    joined_by (after.Failed e) polled s = let h = has_end (after.Failed e) s in record {
      back = poll_back login t all a k end used (after.Failed e) kp polled h;
      forth = λ w at nr first.
          let none : end.pending ≡ None = ap (λ (y : Kept). y.pending) polled.ends.0 in
          subst (λ (y : Outcome). Joins y used made w first) (sym s.0) (subst (λ (y : Handle). Joins (outcomes.Failed e) used y w first) (sym s.1)
          (let l : LastSo login t all a k end used (after.Failed e) kp polled h n number w at (outcomes.Failed e) first = last_poll login t all a k end used (after.Failed e) kp polled h n number w at unrefused (outcomes.Failed e) first tt (refl, refl) in
          record {
            right = l.right;
            told = tt;
            left = status.Absent;
            act_is = λ act. refl;
            tied = ((refl, none), l.after_is);
          }));
    }

  connect_so : (k : Kept) (a : Asked) (x : Looks) (made : Handle) (o : Outcome) (used : Use) → k.pending ≡ Some a → has_closed (made_of k.calls) ≡ false → a.call ≡ calls.Connect → HasTape t made → ConnectsTo login n a k x o used made → JoinsSo k a made o used
  connect_so k a x made o used kp live con has r = joined_by k a made o used r.end r.link kp live con has r.number r.after (polled_of kp r.polled) r.shows

  -- a dial, and the handshake over its link
  pub dials_so : (step : Step) (plan : Option (List ReadItem)) (rules : Option (List WriteItem)) (items : Option (List DialItem)) (made : Handle) (o : Outcome) (us : List Use) → HasTape t made → Dials login plan rules items n o us made
      → (w : Walk) → AtWalk login nothing_kept w → ((z : Outcome) (uses : ℕ) → act_of aim w.spot.status n w.spot.next (ground_at w) step z uses ≡ dialed n z uses) → LineSo login t n aim statement made step o us w
  dials_so step plan rules items made o us has (grows.Holds left e f g p) w at does =
      subst (λ (z : Handle). LineSo login t n aim statement z step o us w) (sym g) (subst (λ (vs : List Use). LineSo login t n aim statement (Dialing left) step o vs w) (sym f) (subst (λ (z : Outcome). LineSo login t n aim statement (Dialing left) step z (held_use n ∷ []) w) (sym e)
      (record { act = acts.Holds; act_is = does outcomes.Pending 1; right = refl; tied = (refl, at) })))
  dials_so step plan rules items made o us has (grows.Fails left e f g p) w at does =
      subst (λ (z : Handle). LineSo login t n aim statement z step o us w) (sym g) (subst (λ (vs : List Use). LineSo login t n aim statement Absent step o vs w) (sym f) (subst (λ (z : Outcome). LineSo login t n aim statement Absent step z (failed_use n ∷ []) w) (sym e)
      (record { act = acts.Fails; act_is = does _ 1; right = (refl, refl); tied = (refl, at) })))
  dials_so step plan rules items made o us has (grows.Links used x left e new given r) w at does =
      let s = connect_so first_kept first_asked x made o used refl refl refl has r in
      let first : AtWalk login first_kept w = at_begin login nothing_kept calls.Connect None w refl at in
      let j = s.forth w first refl (first_of w.spot.status w.spot.next) in
      subst (λ (vs : List Use). LineSo login t n aim statement made step o vs w) (sym e) (record {
        act = Connects j.left;
        act_is = does o 2 ∙ j.act_is Connects;
        right = (refl, (begins_here t first_kept first_asked w.spot.next at.next_is refl s.back, j.right, j.told));
        tied = j.tied;
      })

  -- the open call goes on
  polls_on : (b : Bool) (k : Kept) (a : Asked) (x : Looks) (made : Handle) (o : Outcome) (us : List Use) → k.pending ≡ Some a → has_closed (made_of k.calls) ≡ false → connects_once (kept_calls k) ≡ true → is_connect (kind_of a.call) ≡ b
      → (rows : Option (List RowParts)) → a.rows ≡ rows → HasTape t made → PollsOn b rows aim login n a k x o us made → StepSo login t n aim statement (Joined true k x) made (steps.Poll n) o us
  polls_on true k a x made o us kp live once con rows rs has r =
      let s = connect_so k a x made o r.0 kp live (is_connecting a.call con) has r.2 in
      record {
        back = s.back;
        forth = λ w tied. by_rows a.rows refl w (subst (λ q. Spotted t true q w.spot) kp tied.0) tied.1 s;
      }
    where
      by_rows : (rs : Option (List RowParts)) → a.rows ≡ rs → (w : Walk) → OpenAs t a rs w.spot → AtWalk login k w → JoinsSo k a made o r.0 → LineSo login t n aim statement made (steps.Poll n) o us w
      by_rows None nr w e at s =
          let j = s.forth w at nr (first_of w.spot.status w.spot.next) in
          let zero_next : (w.spot.next == 0) ≡ true = ap (λ m. m == 0) at.next_is ∙ connects_first_call k a kp once ∙ con in
          subst (λ (vs : List Use). LineSo login t n aim statement made (steps.Poll n) o vs w) (sym r.1) (record {
            act = Polls j.left;
            act_is = here_act aim status.Open w.spot.status n w.spot.next (ground_at w) (steps.Poll n) o 1 refl e refl
                ∙ ap (λ b. if b then connecting n o Polls else polled o) zero_next ∙ j.act_is Polls;
            right = (tt, j.right, j.told);
            tied = j.tied;
          })
      by_rows (Some rows) nr w (first, low, e, g) at s = absurd (not_next a.call g.call con)
        where
          not_next : (c : Call) → c ≡ calls.NextRow → is_connect (kind_of c) ≡ true → ⊥
          not_next calls.Connect e f = cc
          not_next calls.NextRow e f = cc
          not_next _ e f = cc
  polls_on false k a x made o us kp live once con None rs has r = by_skip (is_skip (kind_of a.call)) refl r
    where
      opened : (w : Walk) → Tied login t (Joined true k x) w → w.spot.status ≡ status.Open
      opened w tied = subst (λ (z : Option (List RowParts)). OpenAs t a z w.spot) rs (subst (λ q. Spotted t true q w.spot) kp tied.0)

      later : (w : Walk) → Tied login t (Joined true k x) w → (w.spot.next == 0) ≡ false
      later w tied = ap (λ m. m == 0) tied.1.next_is ∙ connects_first_call k a kp once ∙ con

      acts : (w : Walk) → Tied login t (Joined true k x) w → (z : Outcome) (uses : ℕ) → act_of aim w.spot.status n w.spot.next (ground_at w) (steps.Poll n) z uses ≡ (if uses == 1 then polled z else passed aim w.spot.next z uses)
      acts w tied z uses =
          here_act aim status.Open w.spot.status n w.spot.next (ground_at w) (steps.Poll n) z uses refl (opened w tied) refl
          ∙ ap (λ b. if b then (if uses == 1 then connecting n z Polls else Wrong) else (if uses == 1 then polled z else passed aim w.spot.next z uses)) (later w tied)

      by_skip : (b : Bool) → is_skip (kind_of a.call) ≡ b → PollsCall b aim login n a k x o us made → StepSo login t n aim statement (Joined true k x) made (steps.Poll n) o us
      by_skip true e g =
          let s : SkipsSo login t all n aim statement (steps.Poll n) refl aim k made o us = skips_so login t all n aim statement (steps.Poll n) refl aim k a x made o us kp (ap (λ b. is_refused b (kind_of a.call)) live) rs (skip_call a.call e) has g in
          record {
            back = s.back;
            forth = λ w tied. s.forth w tied.1 (acts w tied outcomes.Pending 1) (λ x. acts w tied (outcomes.Failed x) 1) (λ z u v vs. acts w tied z (length (u ∷ v ∷ vs)) ∙ ap (λ b. if b then polled z else passed aim w.spot.next z (length (u ∷ v ∷ vs))) (not_one u v vs)) tt;
          }
      by_skip false e g =
          let s : OnceSo login t all n aim statement (steps.Poll n) refl k made o us = once_so login t all n aim statement (steps.Poll n) refl k a x made o us kp (ap (λ b. is_refused b (kind_of a.call)) live) rs has g (may_end (shown g.after) a.call e) in
          record {
            back = s.back;
            forth = λ w tied. s.forth w tied.1 (acts w tied o 1) tt;
          }
  polls_on false k a x made o us kp live once con (Some rows) rs has r =
      let s : GathersSo login t all n us a rows k o made = gathers login t all n us a rows k x o made kp live rs has r in
      record {
        back = s.back;
        forth = λ w tied.
            let g = subst (λ (z : Option (List RowParts)). OpenAs t a z w.spot) rs (subst (λ q. Spotted t true q w.spot) kp tied.0) in
            let same : g.3.rows ≡ rows = some_same g.3.rows rows (sym g.3.rows_are ∙ rs) in
            gathered_line login t all n aim statement (steps.Poll n) us o made w g.0
            (s.forth w tied.1 g.3.call g.0 g.1 (subst (λ zs. AreRows zs (calls_before (shown_tape t) g.0 w.spot.next)) same g.3.returned))
            (here_act aim (status.Gathers g.0) w.spot.status n w.spot.next (ground_at w) (steps.Poll n) o (length us) refl g.2 refl ∙ some_gathered us r g.0)
            (ap (λ z. first_of z w.spot.next) g.2) tt;
      }
    where
      some_same : (xs ys : List RowParts) → (let o : Option (List RowParts) = Some xs in o) ≡ Some ys → xs ≡ ys
      some_same xs ys e = cc

      some_gathered : (vs : List Use) → Gathers login n vs a k x o made → (first : ℕ) → gathered first o (length vs) ≡ gathering first o
      some_gathered [] g first = absurd g
      some_gathered (v ∷ vs) g first = let c : length (v ∷ vs) == 0 ≡ false = grind (arith, nat_tests) in ap (λ b. if b then Wrong else gathering first o) c

  goes_on_with : (q : Option Asked) (k : Kept) (x : Looks) (made : Handle) (o : Outcome) (us : List Use) → k.pending ≡ q → IsLive (Joined true k x) → connects_once (kept_calls k) ≡ true → HasTape t made → GoesOnWith q aim login n k x o us made
      → StepSo login t n aim statement (Joined true k x) made (steps.Poll n) o us
  goes_on_with None k x made o us e live once has r = idle_so login t all n aim statement (steps.Poll n) refl k x made o us e (λ base next. refl) has r
  goes_on_with (Some a) k x made o us e live once has r = polls_on (is_connect (kind_of a.call)) k a x made o us e (live a e) once refl a.rows refl has r

  pub goes_on_so : (plans : Plans) (h made : Handle) (o : Outcome) (us : List Use) → IsLive h → IsOnce h → HasTape t made → GoesOn login plans aim n h o us made → StepSo login t n aim statement h made (steps.Poll n) o us
  goes_on_so plans Absent made o us live once has r = absent_so login t all n aim statement (steps.Poll n) refl made o us has r
  goes_on_so plans (Dialing left) made o us live once has r = record {
    back = tt;
    forth = λ w tied. dials_so (steps.Poll n) (plans.reads n) (plans.writes n) left made o us has r w tied.1 (λ z uses. here_act aim status.Dialing w.spot.status n w.spot.next (ground_at w) (steps.Poll n) z uses refl tied.0 refl);
  }
  goes_on_so plans (Joined false k x) made o us live once has r = gone_so login t all n aim statement (steps.Poll n) refl k x made o us has r
  goes_on_so plans (Joined true k x) made o us live once has r = goes_on_with k.pending k x made o us refl live once has r

  -- the open call is cancelled
  spot_cancelled : (b : Bool) (s : Spot) → Spotted t (not b) None (record { status = (if b then status.Absent else status.Idle); next = s.next; from = s.from; taken = s.taken })
  spot_cancelled true s = (refl, refl)
  spot_cancelled false s = refl

  cancelled_so : (k : Kept) (a : Asked) (x : Looks) (made : Handle) (o : Outcome) (us : List Use) → k.pending ≡ Some a → connects_once (kept_calls k) ≡ true → HasTape t made → IsCancelled login a k x o us made → StepSo login t n aim statement (Joined true k x) made (steps.Cancel n) o us
  cancelled_so k a x made o us kp once has r =
      let c = closes_cancelled (kind_of a.call) (place_kept login k) in
      let said = says.Cancelled c in
      let h : HasRest t (ended_by k a said) = subst (HasTape t) r.left has in
      let g = before_end t k a said h.0 kp h.1 in
      record {
        back = (call_of (done_by a said) ∷ h.0, g);
        forth = λ w tied.
            let at = tied.1 in
            let here = call_here t k (call_of (done_by a said)) h.0 g w.spot.next at.next_is in
            let so : c ≡ closes_cancelled (kind_of a.call) (halt_of login w.closed (own_span k a (Some (told_by said))) w.place).place =
            ap (closes_cancelled (kind_of a.call)) (place_open login k a w.closed w.place kp at.reads ∙ ap (λ (z : Halt). z.place) (same_halt login w.closed k a None (Some (told_by said)) w.place)) in
            let first : (w.spot.next == 0) ≡ is_connect (kind_of a.call) = ap (λ m. m == 0) at.next_is ∙ connects_first_call k a kp once in
            let acts_so : act_of aim w.spot.status n w.spot.next (ground_at w) (steps.Cancel n) outcomes.Done 0 ≡ Cancels (after_cancel w.spot.next) = by_rows a.rows w (subst (λ q. Spotted t true q w.spot) kp tied.0) in
            subst (λ (z : Handle). LineSo login t n aim statement z (steps.Cancel n) o us w) (sym r.left)
            (subst (λ (vs : List Use). LineSo login t n aim statement (Joined (not (is_connect (kind_of a.call))) (ended_by k a said) x) (steps.Cancel n) o vs w) (sym r.uses)
            (subst (λ (z : Outcome). LineSo login t n aim statement (Joined (not (is_connect (kind_of a.call))) (ended_by k a said) x) (steps.Cancel n) z [] w) (sym r.outcome) (record {
              act = Cancels (after_cancel w.spot.next);
              act_is = acts_so;
              right = (subst is_unanswered (sym here) refl, is_ended login t all k a said true h.0 w kp h.1 at so);
              tied = (
                subst (λ b. Spotted t (not b) None (with_status (after_cancel w.spot.next) (ended login (shown_tape t) true w)).spot) first (spot_cancelled (w.spot.next == 0) (ended login (shown_tape t) true w).spot),
                at_end login t all k a said true h.0 w kp h.1 at so,
              );
            })));
      }
    where
      by_rows : (rows : Option (List RowParts)) (w : Walk) → OpenAs t a rows w.spot → act_of aim w.spot.status n w.spot.next (ground_at w) (steps.Cancel n) outcomes.Done 0 ≡ Cancels (after_cancel w.spot.next)
      by_rows None w e = here_act aim status.Open w.spot.status n w.spot.next (ground_at w) (steps.Cancel n) outcomes.Done 0 refl e refl
      by_rows (Some rows) w (first, low, e, g) = here_act aim (status.Gathers first) w.spot.status n w.spot.next (ground_at w) (steps.Cancel n) outcomes.Done 0 refl e refl

  cancels_with : (q : Option Asked) (k : Kept) (x : Looks) (made : Handle) (o : Outcome) (us : List Use) → k.pending ≡ q → connects_once (kept_calls k) ≡ true → HasTape t made → CancelsWith q login k x o us made
      → StepSo login t n aim statement (Joined true k x) made (steps.Cancel n) o us
  cancels_with None k x made o us e once has r = idle_so login t all n aim statement (steps.Cancel n) refl k x made o us e (λ base next. refl) has r
  cancels_with (Some a) k x made o us e once has r = cancelled_so k a x made o us e once has r

  dropped_so : (left : Option (List DialItem)) (made : Handle) (o : Outcome) (us : List Use) → IsDropped o us made → StepSo login t n aim statement (Dialing left) made (steps.Cancel n) o us
  dropped_so left made o us r = record {
    back = tt;
    forth = λ w tied.
        subst (λ (z : Handle). LineSo login t n aim statement z (steps.Cancel n) o us w) (sym r.left)
        (subst (λ (vs : List Use). LineSo login t n aim statement Absent (steps.Cancel n) o vs w) (sym r.uses)
        (subst (λ (z : Outcome). LineSo login t n aim statement Absent (steps.Cancel n) z [] w) (sym r.outcome) (record {
          act = Skips status.Absent;
          act_is = here_act aim status.Dialing w.spot.status n w.spot.next (ground_at w) (steps.Cancel n) outcomes.Done 0 refl tied.0 refl;
          right = tt;
          tied = (refl, tied.1);
        })));
  }

  pub cancels_so : (h made : Handle) (o : Outcome) (us : List Use) → IsOnce h → HasTape t made → CancelsAt login h o us made → StepSo login t n aim statement h made (steps.Cancel n) o us
  cancels_so Absent made o us once has r = absent_so login t all n aim statement (steps.Cancel n) refl made o us has r
  cancels_so (Dialing left) made o us once has r = dropped_so left made o us r
  cancels_so (Joined false k x) made o us once has r = gone_so login t all n aim statement (steps.Cancel n) refl k x made o us has r
  cancels_so (Joined true k x) made o us once has r = cancels_with k.pending k x made o us refl once has r
