-- A step that takes a set for a stream, or reads one: the rest of a set that a stream took is passed over first.
use Rattle.std.proofs.Common.{◌≡◌, ℕ, ◌+◌, ◌==◌, nat_lt, List, [], ◌∷◌, ◌++◌, length, slice_get, map, Bool, true, false, not, ◌&&◌, ◌||◌, Option, Some, None, refl, sym, ap, ◌∙◌, subst, arith, if◌then◌else◌}
use Rattle.std.proofs.lemmas.Bool.Decides.{nat_tests}
use Rattle.my_statements.specs.Prepared.{StatementView}
use Rattle.my_grammar.specs.declared.login.Login.{Login}
use Rattle.my_link.specs.declared.met.Met.{Met}
use Rattle.my_link.specs.Looks.{Looks}
use Rattle.my_link.specs.Moves.{NoStop, Stop as LinkStop}
use Rattle.my_reading.specs.declared.answer.Answer.{Answer}
use Rattle.my_reading.specs.declared.answer.Answer.TheVariants as answers
use Rattle.my_reading.specs.declared.call.Call.{Call}
use Rattle.my_reading.specs.declared.call.Call.TheVariants as calls
use Rattle.my_reading.specs.declared.error.Error.{Error}
use Rattle.my_reading.specs.Calls.{kind_of}
use Rattle.my_reading.specs.Endings.{AreCalls}
use Rattle.my_reading.specs.Place.{Place, is_taken}
use Rattle.my_reading.specs.Reading.{closed_answer, reading}
use Rattle.my_reading.specs.Tape.{Tape}
use Rattle.my_reading.specs.Told.{ToldError, ToldReady, closes, told}
use Rattle.my_reading.specs.Course.{Returns, Stop}
use Rattle.my_reading.specs.Errors.{connection_closed}
use Rattle.my_session.specs.Fits.{may_be}
use Rattle.my_client.specs.Made.{has_closed}
use Rattle.my_session.specs.Sessions.{is_refused}
use Rattle.my_script.specs.declared.aim.Aim.{Aim}
use Rattle.my_script.specs.declared.aim.Aim.TheVariants as aims
use Rattle.my_script.specs.declared.step.Step.{Step}
use Rattle.my_script.specs.declared.step.Step.TheVariants as steps
use Rattle.my_script.specs.Streams.{is_skip, target}
use Rattle.my_script.specs.declared.transcript.Outcome.{Outcome}
use Rattle.my_script.specs.declared.transcript.Outcome.TheVariants as outcomes
use Rattle.my_script.specs.declared.transcript.Use.{Use}
use Rattle.my_run_judge.specs.declared.act.Act.TheVariants.{Wrong, Skips as SkipsLine, Polls, Passes as PassesLine}
use Rattle.my_run_judge.specs.declared.act.Ground.{Ground}
use Rattle.my_run_judge.specs.declared.act.Status.{Status}
use Rattle.my_run_judge.specs.declared.act.Status.TheVariants as status
use Rattle.my_script.specs.Actions.{next_call, reading_call}
use Rattle.my_run_judge.specs.Acts.{act_of, after_passing, at_dialing, at_gathering, at_idle, at_open, begun_by, closed_at_once, follows, gathered, gathering, ground_of, passed, passes, passing, polled, reads, taking}
use Rattle.my_client.specs.declared.poll.After.{After}
use Rattle.my_client.specs.declared.poll.After.TheVariants as after
use Rattle.my_client.specs.declared.tape.Said.TheVariants as says
use Rattle.my_client.specs.Kept.{Asked, Kept, asked_by, asking, ended_by, made_of}
use Rattle.my_client.specs.Reads.{ComesTo, place_kept}
use Rattle.my_client.proofs.TapeRead.Stopping.{stop_closed}
use Rattle.my_steps.specs.Grows.{Begins, BeginsOn, Calls, Collects, CollectsOn, Follows, Gathers, IsClosed, PolledOnce, Reads, ReadsAt, ReadsOn, Skips, Then, has_taken, is_done, next_asked, shown}
use Rattle.my_steps.specs.Handle.{Handle, Absent, Dialing, Joined}
use Rattle.my_run_judge.specs.Lines.{AreFollowed, IsBegun, IsSkip, MayEnd, SkipPoll, after_last_poll, after_polls, after_row_poll, begun_in, first_of, ground_at, is_pending}
use Rattle.my_run_judge.specs.Walks.{Walk, ended, with_status, with_taken}
use Rattle.run_laws.proofs.Polls.{PollEnds, Polled, polled_of}
use Rattle.run_laws.proofs.Judging.Going.{before_begin, shown_call, shown_tape}
use Rattle.run_laws.proofs.Judging.Tying.{AtWalk, at_begin, closed_more, place_at_rest}
use Rattle.run_laws.proofs.Judging.Meeting.{met_at_stop}
use Rattle.run_laws.proofs.Judging.Polling.{HasRest, LastSo, after_so, before_none, begins_here, call_so, ended_so, fits, last_poll, may_end, next_so, poll_back}
use Rattle.run_laws.proofs.Judging.Gathering.{Forth, GathersSo, HasTape, gathers}
use Rattle.run_laws.proofs.Judging.Stepping.{LineSo, OnceSo, Spotted, StepSo, Tied, absent_so, closed_so, dialing_so, gone_so, here_act, once_so, open_so, shown_acts, shown_by, shown_spot}
use Rattle.run_laws.proofs.Judging.Calling.{gathered_line, gathered_spot}

-- the call that passes over the rest of a set returns that it is done, and doesn't close the connection
pub skip_call : (call : Call) → is_skip (kind_of call) ≡ true → call ≡ calls.SkipTaken
skip_call calls.SkipTaken e = refl
skip_call _ e = cc

skip_ready : (answer : Answer) → may_be (kind_of calls.SkipTaken) (told answer) ≡ true → answer ≡ answers.Ready
skip_ready answers.Ready e = refl
skip_ready (answers.Row row) e = cc
skip_ready answers.SetEnd e = cc
skip_ready answers.NoSet e = cc
skip_ready (answers.Stmt statement) e = cc
skip_ready (answers.Flag flag) e = cc

-- the call that takes a set returns that it is done, or that nothing is left
take_acts : (answer : Answer) → may_be (kind_of calls.TakeSet) (told answer) ≡ true → taking (shown (after.Answered answer)) ≡ polled (shown (after.Answered answer))
take_acts answers.Ready e = refl
take_acts (answers.Row row) e = cc
take_acts answers.SetEnd e = cc
take_acts answers.NoSet e = refl
take_acts (answers.Stmt statement) e = cc
take_acts (answers.Flag flag) e = cc

one_take : (login : Login) (a : Asked) (f end : Kept) (u : Met) (stop : LinkStop) (p : After) → a.call ≡ calls.TakeSet → PollEnds login a f u stop p end → taking (shown p) ≡ polled (shown p)
one_take login a f end u stop after.Pending e r = refl
one_take login a f end u stop (after.Answered answer) e r = take_acts answer (subst (λ c. may_be (kind_of c) (told answer) ≡ true) e r.2)
one_take login a f end u stop (after.Failed x) e r = refl

-- a call that didn't close the connection
still_open : (k b : Kept) (a : Asked) (answer : Answer) → b.calls ≡ k.calls → a.call ≡ calls.SkipTaken → answer ≡ answers.Ready → has_closed (made_of k.calls) ≡ false → has_closed (made_of (ended_by b a (says.Answered answer)).calls) ≡ false
still_open k b a answer same skip ready alive =
    closed_more b.calls (record { call = a.call; sent_from = a.sent_from; taken_from = a.taken_from; said = says.Answered answer })
    ∙ ap (λ c. has_closed (made_of b.calls) || closes (told answer) (kind_of c)) skip
    ∙ ap (λ x. has_closed (made_of b.calls) || closes (told x) (kind_of calls.SkipTaken)) ready
    ∙ ap (λ c. c || closes (told answers.Ready) (kind_of calls.SkipTaken)) (ap (λ ds. has_closed (made_of ds)) same ∙ alive)

-- a call that a closed connection refuses doesn't return that it is done
was_open : (login : Login) (k b : Kept) (a : Asked) (answer : Answer) → b.calls ≡ k.calls → b.pending ≡ Some a → a.call ≡ calls.SkipTaken → answer ≡ answers.Ready → ComesTo login b (told answer) → has_closed (made_of k.calls) ≡ false
was_open login k b a answer same some skip ready comes = by_closed (has_closed (made_of k.calls)) refl
  where
    by_closed : (c : Bool) → has_closed (made_of k.calls) ≡ c → c ≡ false
    by_closed false e = refl
    by_closed true e =
        let shut = stop_closed login b a some (ap (λ ds. has_closed (made_of ds)) same ∙ e) in
        absurd (let no : (let s : Option Stop = Some (Returns ToldReady) in s) ≡ Some (Returns (ToldError connection_closed)) = sym (comes ∙ ap (λ x. Some (Returns (told x))) ready) ∙ shut ∙ ap (λ c. Some (Returns (closed_answer c))) skip in cc)

-- the step that reads with this aim
abbrev pub read_step : Aim → ℕ → Step
read_step aims.Take n = steps.Stream n
read_step aims.Row n = steps.Next n
read_step aims.Rows n = steps.Collect n

read_named : (what : Aim) (n : ℕ) → target (read_step what n) ≡ Some n
read_named aims.Take n = refl
read_named aims.Row n = refl
read_named aims.Rows n = refl

read_begun : (what : Aim) (n : ℕ) (taken : Bool) (statement : Option StatementView) → begun_by taken statement (read_step what n) ≡ Some (reading_call taken what)
read_begun aims.Take n taken statement = refl
read_begun aims.Row n taken statement = refl
read_begun aims.Rows n taken statement = refl

read_idle : (what : Aim) (n next : ℕ) (base : Ground) (z : Outcome) (uses : ℕ) → at_idle base next (read_step what n) z uses ≡ reads base what next z uses
read_idle aims.Take n next base z uses = refl
read_idle aims.Row n next base z uses = refl
read_idle aims.Rows n next base z uses = refl

read_dialing : (what : Aim) (n m : ℕ) → at_dialing n (read_step what m) outcomes.NoSuchHandle 0 ≡ SkipsLine status.Dialing
read_dialing aims.Take n m = refl
read_dialing aims.Row n m = refl
read_dialing aims.Rows n m = refl

read_open : (what aim : Aim) (n m next : ℕ) → at_open aim n next (read_step what m) outcomes.NoSuchHandle 0 ≡ SkipsLine status.Open
read_open aims.Take aim n m next = refl
read_open aims.Row aim n m next = refl
read_open aims.Rows aim n m next = refl

read_gathering : (what : Aim) (m first next : ℕ) → at_gathering first next (read_step what m) outcomes.NoSuchHandle 0 ≡ SkipsLine (status.Gathers first)
read_gathering aims.Take m first next = refl
read_gathering aims.Row m first next = refl
read_gathering aims.Rows m first next = refl

-- a closed connection refuses each call of it, and it passes over nothing
refused_by : (what : Aim) (closed : Bool) → is_refused closed (kind_of (next_call what)) ≡ closed
refused_by aims.Take true = refl
refused_by aims.Take false = refl
refused_by aims.Row true = refl
refused_by aims.Row false = refl
refused_by aims.Rows true = refl
refused_by aims.Rows false = refl

passes_nothing : (what : Aim) → is_skip (kind_of (next_call what)) ≡ false
passes_nothing aims.Take = refl
passes_nothing aims.Row = refl
passes_nothing aims.Rows = refl

-- what the walk takes the connection for
closed_ground : (c taken : Bool) (what : Aim) (next : ℕ) (z : Outcome) (uses : ℕ) → c ≡ true → reads (ground_of c taken) what next z uses ≡ closed_at_once z uses
closed_ground true taken what next z uses e = refl
closed_ground false taken what next z uses e = cc

taken_ground : (c taken : Bool) (what : Aim) (next : ℕ) (z : Outcome) (uses : ℕ) → not c && taken ≡ true → reads (ground_of c taken) what next z uses ≡ passes what next z uses
taken_ground true taken what next z uses e = cc
taken_ground false true what next z uses e = refl
taken_ground false false what next z uses e = cc

free_ground : (c taken : Bool) (what : Aim) (next : ℕ) (z : Outcome) (uses : ℕ) → c ≡ false → not c && taken ≡ false → reads (ground_of c taken) what next z uses ≡ follows what next z uses
free_ground true taken what next z uses e f = cc
free_ground false true what next z uses e f = cc
free_ground false false what next z uses e f = refl

pub open_first : (c taken : Bool) → not c && taken ≡ true → c ≡ false
open_first true taken e = cc
open_first false taken e = refl

some_gathered : (next : ℕ) (o : Outcome) (u : Use) (us : List Use) → gathered next o (length (u ∷ us)) ≡ gathering next o
some_gathered next o u us = let c : length (u ∷ us) == 0 ≡ false = grind (arith, nat_tests) in ap (λ b. if b then Wrong else gathering next o) c

pub ground_is : (login : Login) (k : Kept) (w : Walk) → k.pending ≡ None → AtWalk login k w → ground_at w ≡ ground_of (has_closed (made_of k.calls)) (is_taken (place_kept login k))
ground_is login k w none at = ap (λ b. ground_of b (is_taken w.place)) at.closed_is ∙ ap (λ (p : Place). ground_of (has_closed (made_of k.calls)) (is_taken p)) (sym (place_at_rest login k w.closed w.place none at.reads))

-- a line of several polls
pub not_one : (u v : Use) (vs : List Use) → (length (u ∷ v ∷ vs) == 1) ≡ false
not_one u v vs = grind (arith, nat_tests)

more_than_one : (u v : Use) (vs : List Use) → nat_lt 1 (length (u ∷ v ∷ vs)) ≡ true
more_than_one u v vs = grind (arith, nat_tests)

module _ (login : Login) (t : Tape) (all : AreCalls login (reading login t).calls) (n : ℕ) (aim : Aim) (statement : Option StatementView) (step : Step) (named : target step ≡ Some n) where
  -- what is read once the rest of a set is passed over
  pub record Followed (what : Aim) (w : Walk) (made : Handle) (o : Outcome) (vs : List Use) : Type 0 where
    pub left : Status
    pub acts : (next : ℕ) (u : Use) → w.spot.next ≡ next + 1 → passed what next o (length (u ∷ vs)) ≡ PassesLine what left
    pub polls : AreFollowed login n (shown_tape t) o vs w
    pub tied : Tied login t made (with_status left (after_polls login (shown_tape t) o vs w))

  pub record FollowSo (what : Aim) (end : Kept) (made : Handle) (o : Outcome) (vs : List Use) : Type 0 where
    pub back : HasRest t end
    pub begun : (m : ℕ) → m ≡ length end.calls → IsBegun (Some (next_call what)) (slice_get (map shown_call t.calls) m)
    pub forth : (w : Walk) → AtWalk login end w → Followed what w made o vs

  -- one call is polled
  module _ (what : Aim) (end : Kept) (y : Looks) (made : Handle) (o : Outcome) (vs : List Use) (none : end.pending ≡ None) (still : has_closed (made_of end.calls) ≡ false) (has : HasTape t made)
      (acts : (a : Asked) (f later : Kept) (m : Met) (stop : LinkStop) (p : After) (next : ℕ) → a.call ≡ next_call what → PollEnds login a f m stop p later → passed what next (shown p) 2 ≡ PassesLine what (if is_pending (shown p) then status.Open else status.Idle)) where
    once_follows : PolledOnce login n (asked_by end (next_call what)) (asking end (next_call what) None) y o vs made → FollowSo what end made o vs
    once_follows q =
        let next : Kept = asking end (next_call what) None in
        let asked : Asked = asked_by end (next_call what) in
        let last : Polled login asked next q.used.met q.after q.end = polled_of refl q.polled in
        let h : HasRest t q.end = subst (HasTape t) q.left has in
        let more : HasRest t next = poll_back login t all asked next q.end q.used q.after refl last h in
        let z : Outcome = shown q.after in
        record {
          back = (more.0, before_begin t end (next_call what) None more.0 none more.1);
          begun = λ m e. begins_here t next asked m e refl more;
          forth = λ w at.
              let at_next : AtWalk login next w = at_begin login end (next_call what) None w none at in
              let s : LastSo login t all asked next q.end q.used q.after refl last h n q.number w at_next z w.spot.next =
              last_poll login t all asked next q.end q.used q.after refl last h n q.number w at_next (refused_by what (has_closed (made_of end.calls)) ∙ still) z w.spot.next (may_end z (next_call what) (passes_nothing what)) (shown_by login t all n aim statement step named q.after _) in
              subst (λ (m : Handle). Followed what w m o vs) (sym q.left)
              (subst (λ (xs : List Use). Followed what w (Joined true q.end q.link) o xs) (sym q.uses)
              (subst (λ (v : Outcome). Followed what w (Joined true q.end q.link) v (q.used ∷ [])) (sym q.outcome) (record {
                left = if is_pending z then status.Open else status.Idle;
                acts = λ next u e. acts asked last.following q.end q.used.met last.stop q.after next refl last.ends;
                polls = s.right;
                tied = (shown_spot login t all n aim statement step named asked last.following q.end q.used.met last.stop q.after refl last.pending last.ends (after_last_poll login (shown_tape t) z q.used w).spot, s.after_is);
              })));
        }

    begun_open : (c : Bool) → is_refused (has_closed (made_of end.calls)) (kind_of (next_call what)) ≡ c → Begins c login n (next_call what) end y o vs made → FollowSo what end made o vs
    begun_open true is r = absurd (let no : false ≡ true = sym (refused_by what (has_closed (made_of end.calls)) ∙ still) ∙ is in cc)
    begun_open false is r = once_follows r

    on_open : (q : Option Asked) → end.pending ≡ q → BeginsOn q login n (next_call what) end y o vs made → FollowSo what end made o vs
    on_open None e r = begun_open (is_refused (has_closed (made_of end.calls)) (kind_of (next_call what))) refl r
    on_open (Some b) e r = absurd (let no : None ≡ Some b = sym none ∙ e in cc)

    pub called_so : Calls login n (next_call what) (Joined true end y) o vs made → FollowSo what end made o vs
    called_so r = on_open end.pending refl r

  -- rows are gathered
  module _ (end : Kept) (y : Looks) (made : Handle) (o : Outcome) (none : end.pending ≡ None) (still : has_closed (made_of end.calls) ≡ false) (has : HasTape t made) where
    gathered_acts : (first next : ℕ) (u v : Use) (vs : List Use) → first ≡ next + 1 → gathering first o ≡ Polls (if is_pending o then status.Gathers first else status.Idle) → passed aims.Rows next o (length (u ∷ v ∷ vs)) ≡ PassesLine aims.Rows (if is_pending o then status.Gathers first else status.Idle)
    gathered_acts first next u v vs e acts =
        ap (λ b. if b then after_passing aims.Rows (gathering (next + 1) o) else Wrong) (more_than_one u v vs)
        ∙ ap (λ m. after_passing aims.Rows (gathering m o)) (sym e)
        ∙ ap (after_passing aims.Rows) acts

    gathers_follow : (vs : List Use) → Gathers login n vs (next_asked end []) (asking end calls.NextRow (Some [])) y o made → FollowSo aims.Rows end made o vs
    gathers_follow [] r = absurd r
    gathers_follow (v ∷ vs) r =
        let f : Kept = asking end calls.NextRow (Some []) in
        let s : GathersSo login t all n (v ∷ vs) (next_asked end []) [] f o made = gathers login t all n (v ∷ vs) (next_asked end []) [] f y o made refl still refl has r in
        record {
          back = (s.back.0, before_begin t end calls.NextRow (Some []) s.back.0 none s.back.1);
          begun = λ m e. begins_here t f (next_asked end []) m e refl s.back;
          forth = λ w at.
              let g : Forth login t all n (v ∷ vs) o w.spot.next made w = s.forth w (at_begin login end calls.NextRow (Some []) w none at) refl w.spot.next (omega arith) (before_none t w.spot.next) in
              record {
                left = if is_pending o then status.Gathers w.spot.next else status.Idle;
                acts = λ next u e. gathered_acts w.spot.next next u v vs e g.to.acts;
                polls = g.polls;
                tied = subst (λ (z : Handle). Tied login t z (with_status (if is_pending o then status.Gathers w.spot.next else status.Idle) (after_polls login (shown_tape t) o (v ∷ vs) w))) (sym g.to.is)
                    (gathered_spot login t all n aim statement o w.spot.next g.to.end (after_polls login (shown_tape t) o (v ∷ vs) w).spot g.to.state, g.to.walk);
              };
        }

    collected_by : (vs : List Use) (c : Bool) → has_closed (made_of end.calls) ≡ c → Collects c login n end y o vs made → FollowSo aims.Rows end made o vs
    collected_by vs true e r = absurd (let no : false ≡ true = sym still ∙ e in cc)
    collected_by vs false e r = gathers_follow vs r

    collected_on : (vs : List Use) (q : Option Asked) → end.pending ≡ q → CollectsOn q login n end y o vs made → FollowSo aims.Rows end made o vs
    collected_on vs None e r = collected_by vs (has_closed (made_of end.calls)) refl r
    collected_on vs (Some b) e r = absurd (let no : None ≡ Some b = sym none ∙ e in cc)

  take_passes : (a : Asked) (f later : Kept) (m : Met) (stop : LinkStop) (p : After) (next : ℕ) → a.call ≡ calls.TakeSet → PollEnds login a f m stop p later → passed aims.Take next (shown p) 2 ≡ PassesLine aims.Take (if is_pending (shown p) then status.Open else status.Idle)
  take_passes a f later m stop p next e r = ap (after_passing aims.Take) (one_take login a f later m stop p e r ∙ shown_acts login t all n aim statement step named p)

  row_passes : (p : After) (next : ℕ) → passed aims.Row next (shown p) 2 ≡ PassesLine aims.Row (if is_pending (shown p) then status.Open else status.Idle)
  row_passes p next = ap (after_passing aims.Row) (shown_acts login t all n aim statement step named p)

  pub follows_so : (what : Aim) (end : Kept) (y : Looks) (made : Handle) (o : Outcome) (vs : List Use) → end.pending ≡ None → has_closed (made_of end.calls) ≡ false → HasTape t made → Follows what login n (Joined true end y) o vs made → FollowSo what end made o vs
  follows_so aims.Take end y made o vs none still has r = called_so aims.Take end y made o vs none still has take_passes r
  follows_so aims.Row end y made o vs none still has r = called_so aims.Row end y made o vs none still has (λ a f later m stop p next e ends. row_passes p next) r
  follows_so aims.Rows end y made o vs none still has r = collected_on end y made o none still has vs end.pending refl r

  -- the rest of a set is passed over first
  pub record SkipsSo (what : Aim) (k : Kept) (made : Handle) (o : Outcome) (us : List Use) : Type 0 where
    pub back : HasRest t k
    pub forth : (w : Walk) → AtWalk login k w → act_of aim w.spot.status n w.spot.next (ground_at w) step outcomes.Pending 1 ≡ Polls status.Open
        → ((e : Error) → act_of aim w.spot.status n w.spot.next (ground_at w) step (outcomes.Failed e) 1 ≡ Polls status.Idle)
        → ((z : Outcome) (u v : Use) (vs : List Use) → act_of aim w.spot.status n w.spot.next (ground_at w) step z (length (u ∷ v ∷ vs)) ≡ passed what w.spot.next z (length (u ∷ v ∷ vs)))
        → IsBegun (begun_in statement w step) (slice_get (map shown_call t.calls) w.spot.next) → LineSo login t n aim statement made step o us w

  module _ (what : Aim) (k : Kept) (a : Asked) (x : Looks) (made : Handle) (o : Outcome) (kp : k.pending ≡ Some a) (live : is_refused (has_closed (made_of k.calls)) (kind_of a.call) ≡ false) (nr : a.rows ≡ None) (skip : a.call ≡ calls.SkipTaken) (has : HasTape t made) where
    -- the first poll is the last one
    held : (us : List Use) (r : PolledOnce login n a k x o us made) → shown r.after ≡ outcomes.Pending → SkipsSo what k made o us
    held us r is =
        let s : OnceSo login t all n aim statement step named k made o us = once_so login t all n aim statement step named k a x made o us kp live nr has r (subst (λ z. MayEnd z a.call) (sym is) tt) in
        let o_is : o ≡ outcomes.Pending = r.outcome ∙ is in
        record { back = s.back; forth = λ w at pends fails more begun. s.forth w at (subst (λ z. act_of aim w.spot.status n w.spot.next (ground_at w) step z 1 ≡ polled z) (sym o_is) pends) begun }

    failed : (us : List Use) (e : Error) (r : PolledOnce login n a k x o us made) → shown r.after ≡ outcomes.Failed e → SkipsSo what k made o us
    failed us e r is =
        let s : OnceSo login t all n aim statement step named k made o us = once_so login t all n aim statement step named k a x made o us kp live nr has r (subst (λ z. MayEnd z a.call) (sym is) tt) in
        let o_is : o ≡ outcomes.Failed e = r.outcome ∙ is in
        record { back = s.back; forth = λ w at pends fails more begun. s.forth w at (subst (λ z. act_of aim w.spot.status n w.spot.next (ground_at w) step z 1 ≡ polled z) (sym o_is) (fails e)) begun }

    -- others are polled after it
    passed_line : (vs : List Use) (u : Use) (w : Walk) (left : Status)
        → ((z : Outcome) (b v : Use) (ws : List Use) → act_of aim w.spot.status n w.spot.next (ground_at w) step z (length (b ∷ v ∷ ws)) ≡ passed what w.spot.next z (length (b ∷ v ∷ ws)))
        → IsBegun (begun_in statement w step) (slice_get (map shown_call t.calls) w.spot.next) → SkipPoll login n (shown_tape t) what u w
        → AreFollowed login n (shown_tape t) o vs (after_row_poll login (shown_tape t) u w) → ((b : Use) → passed what w.spot.next o (length (b ∷ vs)) ≡ PassesLine what left)
        → Tied login t made (with_status left (after_polls login (shown_tape t) o vs (after_row_poll login (shown_tape t) u w))) → LineSo login t n aim statement made step o (u ∷ vs) w
    passed_line [] u w left more begun skips polls acts tied = absurd polls
    passed_line (v ∷ vs) u w left more begun skips polls acts tied = record {
      act = PassesLine what left;
      act_is = more o u v vs ∙ acts u;
      right = (begun, (skips, polls));
      tied = tied;
    }

    module _ (end : Kept) (y : Looks) (u : Use) (polled_is : Polled login a k u.met (after.Answered answers.Ready) end) (number : u.number ≡ n) where
      abbrev p : After
      p = after.Answered answers.Ready

      others : (vs : List Use) → FollowSo what end made o vs → SkipsSo what k made o (u ∷ vs)
      others vs f = record {
        back = poll_back login t all a k end u p kp polled_is f.back;
        forth = λ w at pends fails more begun.
            let said = says.Answered answers.Ready in
            let e = polled_is.ends.0 in
            let shut = ended login (shown_tape t) false (with_taken u.met.taken w) in
            let is_so = ended_so login t all a k end u p kp polled_is f.back n number w at said tt e in
            let at_end : AtWalk login end shut = after_so login t all a k end u p kp polled_is f.back n number w at said tt e in
            let count : w.spot.next + 1 ≡ length end.calls = next_so login t all a k end u p kp polled_is f.back n number w at said tt e in
            let here = call_so login t all a k end u p kp polled_is f.back n number w at said tt e in
            let later : Followed what shut made o vs = f.forth shut at_end in
            passed_line vs u w later.left more begun
            (fits login t all a k end u p kp polled_is f.back n number w at, (polled_is.within, met_at_stop u.met polled_is.stop polled_is.met NoStop polled_is.ends.3), (subst IsSkip (sym here) (skip, refl), f.begun (w.spot.next + 1) count, is_so))
            later.polls (λ b. later.acts w.spot.next b (at_end.next_is ∙ sym count)) later.tied;
      }

  -- what is read after the first poll, by what that came to
  module _ (what : Aim) (k : Kept) (a : Asked) (x : Looks) (made : Handle) (o : Outcome) (us : List Use) (kp : k.pending ≡ Some a) (live : is_refused (has_closed (made_of k.calls)) (kind_of a.call) ≡ false) (nr : a.rows ≡ None) (skip : a.call ≡ calls.SkipTaken) (has : HasTape t made) where
    only : (r : Skips (PolledOnce login n a k x) (Follows what login n) o us made) → (first : Outcome) → r.first ≡ first → is_done first ≡ false → (p : PolledOnce login n a k x o us made) × (p.after ≡ r.skips.after)
    only r first is done =
        let s = r.skips in
        let g : Then false (Follows what login n) r.first r.mid o r.later made = subst (λ b. Then b (Follows what login n) r.first r.mid o r.later made) (ap is_done is ∙ done) r.follows in (
          record {
            used = s.used;
            uses = r.uses ∙ ap (λ (vs : List Use). vs ++ r.later) s.uses ∙ ap (λ (vs : List Use). s.used ∷ vs) g.1;
            number = s.number;
            after = s.after;
            end = s.end;
            link = s.link;
            polled = s.polled;
            outcome = g.0 ∙ s.outcome;
            left = g.2 ∙ s.left;
          },
          refl,
        )

    by_after : (r : Skips (PolledOnce login n a k x) (Follows what login n) o us made) (p : After) → r.skips.after ≡ p → SkipsSo what k made o us
    by_after r after.Pending is =
        let first : r.first ≡ outcomes.Pending = r.skips.outcome ∙ ap shown is in
        let p = only r outcomes.Pending first refl in
        held what k a x made o kp live nr skip has us p.0 (ap shown (p.1 ∙ is))
    by_after r (after.Failed e) is =
        let first : r.first ≡ outcomes.Failed e = r.skips.outcome ∙ ap shown is in
        let p = only r (outcomes.Failed e) first refl in
        failed what k a x made o kp live nr skip has us e p.0 (ap shown (p.1 ∙ is))
    by_after r (after.Answered answer) is =
        let s = r.skips in
        let here : Polled login a k s.used.met s.after s.end = polled_of kp s.polled in
        let ends : PollEnds login a here.following s.used.met here.stop (after.Answered answer) s.end = subst (λ (p : After). PollEnds login a here.following s.used.met here.stop p s.end) is here.ends in
        let ready : answer ≡ answers.Ready = skip_ready answer (subst (λ c. may_be (kind_of c) (told answer) ≡ true) skip ends.2) in
        let after_is : s.after ≡ after.Answered answers.Ready = is ∙ ap after.Answered ready in
        let first : is_done r.first ≡ true = ap is_done (s.outcome ∙ ap shown after_is) in
        let g : Follows what login n (Joined true s.end s.link) o r.later made =
        subst (λ (h : Handle). Follows what login n h o r.later made) s.left (subst (λ b. Then b (Follows what login n) r.first r.mid o r.later made) first r.follows) in
        let alive : has_closed (made_of k.calls) ≡ false = was_open login k here.following a answer here.calls here.pending skip ready ends.1 in
        let none : s.end.pending ≡ None = ap (λ (z : Kept). z.pending) ends.0 in
        let open_end : has_closed (made_of s.end.calls) ≡ false = ap (λ (z : Kept). has_closed (made_of z.calls)) ends.0 ∙ still_open k here.following a answer here.calls skip ready alive in
        let polled_is : Polled login a k s.used.met (after.Answered answers.Ready) s.end = subst (λ (p : After). Polled login a k s.used.met p s.end) after_is here in
        subst (λ (vs : List Use). SkipsSo what k made o vs) (sym (r.uses ∙ ap (λ (vs : List Use). vs ++ r.later) s.uses))
        (others what k a x made o kp live nr skip has s.end s.link s.used polled_is s.number r.later (follows_so what s.end s.link made o r.later none open_end has g))

    pub skips_so : Skips (PolledOnce login n a k x) (Follows what login n) o us made → SkipsSo what k made o us
    skips_so r = by_after r r.skips.after refl

-- a step that reads
module _ (login : Login) (t : Tape) (all : AreCalls login (reading login t).calls) (n : ℕ) (aim : Aim) (statement : Option StatementView) (what : Aim) where
  abbrev step : Step
  step = read_step what n

  abbrev named : target step ≡ Some n
  named = read_named what n

  module _ (k : Kept) (x : Looks) (made : Handle) (o : Outcome) (us : List Use) (none : k.pending ≡ None) (has : HasTape t made) where
    abbrev shut : Bool
    shut = has_closed (made_of k.calls)

    -- what the walk knows of the set that is read
    taken_at : (w : Walk) → AtWalk login k w → not w.closed && is_taken w.place ≡ has_taken login k
    taken_at w at = ap (λ b. not b && is_taken w.place) at.closed_is ∙ ap (λ (p : Place). not shut && is_taken p) (sym (place_at_rest login k w.closed w.place none at.reads))

    begun_at : (w : Walk) → AtWalk login k w → (b : Bool) → has_taken login k ≡ b → begun_in statement w step ≡ Some (reading_call b what)
    begun_at w at b first = read_begun what n (not w.closed && is_taken w.place) statement ∙ ap (λ c. Some (reading_call c what)) (taken_at w at ∙ first)

    reads_at : (w : Walk) → AtWalk login k w → (next : ℕ) (z : Outcome) (uses : ℕ) → at_idle (ground_at w) next step z uses ≡ reads (ground_of shut (is_taken (place_kept login k))) what next z uses
    reads_at w at next z uses = read_idle what n next (ground_at w) z uses ∙ ap (λ (g : Ground). reads g what next z uses) (ground_is login k w none at)

    acts : (w : Walk) → Spotted t true k.pending w.spot → AtWalk login k w → (z : Outcome) (uses : ℕ) → act_of aim w.spot.status n w.spot.next (ground_at w) step z uses ≡ reads (ground_of shut (is_taken (place_kept login k))) what w.spot.next z uses
    acts w s at z uses = here_act aim status.Idle w.spot.status n w.spot.next (ground_at w) step z uses refl (subst (λ q. Spotted t true q w.spot) none s) named ∙ reads_at w at w.spot.next z uses

    -- a closed connection refuses it
    refuses : has_taken login k ≡ false → shut ≡ true → IsClosed k x (next_call what) o us made → StepSo login t n aim statement (Joined true k x) made step o us
    refuses first closed r =
        closed_so login t all n aim statement step named (next_call what) k x made o us none has r (λ w at. begun_at w at false first)
        (λ w at e is. reads_at w at w.spot.next (outcomes.Failed connection_closed) 0 ∙ closed_ground shut (is_taken (place_kept login k)) what w.spot.next (outcomes.Failed connection_closed) 0 closed)

    -- one call is polled
    polls : has_taken login k ≡ false → shut ≡ false → ((a : Asked) (f end : Kept) (m : Met) (stop : LinkStop) (p : After) (next : ℕ) → a.call ≡ next_call what → PollEnds login a f m stop p end → follows what next (shown p) 1 ≡ polled (shown p))
        → PolledOnce login n (asked_by k (next_call what)) (asking k (next_call what) None) x o us made → StepSo login t n aim statement (Joined true k x) made step o us
    polls first alive once r =
        let f = asking k (next_call what) None in
        let a = asked_by k (next_call what) in
        let here : Polled login a f r.used.met r.after r.end = polled_of refl r.polled in
        let s : OnceSo login t all n aim statement step named f made o us = once_so login t all n aim statement step named f a x made o us refl (refused_by what shut ∙ alive) refl has r (may_end (shown r.after) (next_call what) (passes_nothing what)) in
        record {
          back = (s.back.0, before_begin t k (next_call what) None s.back.0 none s.back.1);
          forth = λ w tied.
              let shows : follows what w.spot.next o 1 ≡ polled o = subst (λ z. follows what w.spot.next z 1 ≡ polled z) (sym r.outcome) (once a here.following r.end r.used.met here.stop r.after w.spot.next refl here.ends) in
              s.forth w (at_begin login k (next_call what) None w none tied.1)
              (acts w tied.0 tied.1 o 1 ∙ free_ground shut (is_taken (place_kept login k)) what w.spot.next o 1 alive first ∙ shows)
              (subst (λ b. IsBegun b (slice_get (map shown_call t.calls) w.spot.next)) (sym (begun_at w tied.1 false first)) (begins_here t f a w.spot.next tied.1.next_is refl s.back));
        }

    calls_by : has_taken login k ≡ false → ((a : Asked) (f end : Kept) (m : Met) (stop : LinkStop) (p : After) (next : ℕ) → a.call ≡ next_call what → PollEnds login a f m stop p end → follows what next (shown p) 1 ≡ polled (shown p))
        → (b : Bool) → shut ≡ b → Begins b login n (next_call what) k x o us made → StepSo login t n aim statement (Joined true k x) made step o us
    calls_by first once true closed r = refuses first closed r
    calls_by first once false alive r = polls first alive once r

    calls_on : has_taken login k ≡ false → ((a : Asked) (f end : Kept) (m : Met) (stop : LinkStop) (p : After) (next : ℕ) → a.call ≡ next_call what → PollEnds login a f m stop p end → follows what next (shown p) 1 ≡ polled (shown p))
        → (q : Option Asked) → k.pending ≡ q → BeginsOn q login n (next_call what) k x o us made → StepSo login t n aim statement (Joined true k x) made step o us
    calls_on first once None e r = calls_by first once shut refl (subst (λ b. Begins b login n (next_call what) k x o us made) (refused_by what shut) r)
    calls_on first once (Some a) e r = absurd (let no : None ≡ Some a = sym none ∙ e in cc)

    -- the rest of a set is passed over first
    skipping : has_taken login k ≡ true → Skips (Calls login n calls.SkipTaken (Joined true k x)) (Follows what login n) o us made → StepSo login t n aim statement (Joined true k x) made step o us
    skipping first r =
        let alive : shut ≡ false = open_first shut (is_taken (place_kept login k)) first in
        let f = asking k calls.SkipTaken None in
        let a = asked_by k calls.SkipTaken in
        let g : Skips (PolledOnce login n a f x) (Follows what login n) o us made = record { first = r.first; used = r.used; mid = r.mid; skips = skip_begun alive k.pending r.first r.used r.mid refl r.skips; later = r.later; uses = r.uses; follows = r.follows } in
        let s : SkipsSo login t all n aim statement step named what f made o us = skips_so login t all n aim statement step named what f a x made o us refl (ap (λ b. is_refused b (kind_of calls.SkipTaken)) alive) refl refl has g in
        record {
          back = (s.back.0, before_begin t k calls.SkipTaken None s.back.0 none s.back.1);
          forth = λ w tied.
              let act = λ (z : Outcome) (uses : ℕ). acts w tied.0 tied.1 z uses ∙ taken_ground shut (is_taken (place_kept login k)) what w.spot.next z uses first in
              s.forth w (at_begin login k calls.SkipTaken None w none tied.1) (act outcomes.Pending 1) (λ e. act (outcomes.Failed e) 1)
              (λ z u v vs. act z (length (u ∷ v ∷ vs)) ∙ ap (λ b. if b then passing z else passed what w.spot.next z (length (u ∷ v ∷ vs))) (not_one u v vs))
              (subst (λ b. IsBegun b (slice_get (map shown_call t.calls) w.spot.next)) (sym (begun_at w tied.1 true first)) (begins_here t f a w.spot.next tied.1.next_is refl s.back));
        }
      where
        begun_skip : shut ≡ false → (c : Bool) (z : Outcome) (vs : List Use) (mid : Handle) → is_refused shut (kind_of calls.SkipTaken) ≡ c → Begins c login n calls.SkipTaken k x z vs mid → PolledOnce login n (asked_by k calls.SkipTaken) (asking k calls.SkipTaken None) x z vs mid
        begun_skip alive true z vs mid is r = absurd (let no : false ≡ true = sym (ap (λ b. is_refused b (kind_of calls.SkipTaken)) alive) ∙ is in cc)
        begun_skip alive false z vs mid is r = r

        skip_begun : shut ≡ false → (q : Option Asked) (z : Outcome) (vs : List Use) (mid : Handle) → k.pending ≡ q → BeginsOn q login n calls.SkipTaken k x z vs mid → PolledOnce login n (asked_by k calls.SkipTaken) (asking k calls.SkipTaken None) x z vs mid
        skip_begun alive None z vs mid e r = begun_skip alive _ z vs mid refl r
        skip_begun alive (Some b) z vs mid e r = absurd (let no : None ≡ Some b = sym none ∙ e in cc)

-- its rows are gathered
module _ (login : Login) (t : Tape) (all : AreCalls login (reading login t).calls) (n : ℕ) (aim : Aim) (statement : Option StatementView) where
  module _ (k : Kept) (x : Looks) (made : Handle) (o : Outcome) (none : k.pending ≡ None) (has : HasTape t made) (first : has_taken login k ≡ false) where
    gathers_at_once : (us : List Use) → has_closed (made_of k.calls) ≡ false → Gathers login n us (next_asked k []) (asking k calls.NextRow (Some [])) x o made → StepSo login t n aim statement (Joined true k x) made (steps.Collect n) o us
    gathers_at_once [] alive r = absurd r
    gathers_at_once (u ∷ us) alive r =
        let f = asking k calls.NextRow (Some []) in
        let s : GathersSo login t all n (u ∷ us) (next_asked k []) [] f o made = gathers login t all n (u ∷ us) (next_asked k []) [] f x o made refl alive refl has r in
        record {
          back = (s.back.0, before_begin t k calls.NextRow (Some []) s.back.0 none s.back.1);
          forth = λ w tied.
              let e : w.spot.status ≡ status.Idle = subst (λ q. Spotted t true q w.spot) none tied.0 in
              let at = at_begin login k calls.NextRow (Some []) w none tied.1 in
              gathered_line login t all n aim statement (steps.Collect n) (u ∷ us) o made w w.spot.next (s.forth w at refl w.spot.next (omega arith) (before_none t w.spot.next))
              (acts login t all n aim statement aims.Rows k x made o (u ∷ us) none has w tied.0 tied.1 o (length (u ∷ us)) ∙ free_ground (has_closed (made_of k.calls)) (is_taken (place_kept login k)) aims.Rows w.spot.next o (length (u ∷ us)) alive first ∙ some_gathered w.spot.next o u us)
              (ap (λ z. first_of z w.spot.next) e)
              (subst (λ b. IsBegun b (slice_get (map shown_call t.calls) w.spot.next)) (sym (begun_at login t all n aim statement aims.Rows k x made o (u ∷ us) none has w tied.1 false first)) (begins_here t f (next_asked k []) w.spot.next at.next_is refl s.back));
        }

    collects_by : (us : List Use) (b : Bool) → has_closed (made_of k.calls) ≡ b → Collects b login n k x o us made → StepSo login t n aim statement (Joined true k x) made (steps.Collect n) o us
    collects_by us true closed r = refuses login t all n aim statement aims.Rows k x made o us none has first closed r
    collects_by us false alive r = gathers_at_once us alive r

    collects_on : (us : List Use) (q : Option Asked) → k.pending ≡ q → CollectsOn q login n k x o us made → StepSo login t n aim statement (Joined true k x) made (steps.Collect n) o us
    collects_on us None e r = collects_by us (has_closed (made_of k.calls)) refl r
    collects_on us (Some a) e r = absurd (let no : None ≡ Some a = sym none ∙ e in cc)

  -- no stream took the set that is read
  plain : (what : Aim) (k : Kept) (x : Looks) (made : Handle) (o : Outcome) (us : List Use) → k.pending ≡ None → HasTape t made → has_taken login k ≡ false → Follows what login n (Joined true k x) o us made → StepSo login t n aim statement (Joined true k x) made (read_step what n) o us
  plain aims.Take k x made o us none has first r = calls_on login t all n aim statement aims.Take k x made o us none has first (λ a f end m stop p next e ends. one_take login a f end m stop p e ends) k.pending refl r
  plain aims.Row k x made o us none has first r = calls_on login t all n aim statement aims.Row k x made o us none has first (λ a f end m stop p next e ends. refl) k.pending refl r
  plain aims.Rows k x made o us none has first r = collects_on k x made o none has first us k.pending refl r

  reads_by : (what : Aim) (k : Kept) (x : Looks) (made : Handle) (o : Outcome) (us : List Use) → k.pending ≡ None → HasTape t made → (b : Bool) → has_taken login k ≡ b → Reads b what login n (Joined true k x) o us made → StepSo login t n aim statement (Joined true k x) made (read_step what n) o us
  reads_by what k x made o us none has true first r = skipping login t all n aim statement what k x made o us none has first r
  reads_by what k x made o us none has false first r = plain what k x made o us none has first r

  reads_on : (what : Aim) (q : Option Asked) (k : Kept) (x : Looks) (made : Handle) (o : Outcome) (us : List Use) → k.pending ≡ q → HasTape t made → ReadsOn q what login n k x o us made → StepSo login t n aim statement (Joined true k x) made (read_step what n) o us
  reads_on what None k x made o us e has r = reads_by what k x made o us e has (has_taken login k) refl r
  reads_on what (Some a) k x made o us e has r = open_so login t all n aim statement (read_step what n) (read_named what n) k x a made o us e (λ next. read_open what aim n n next) (λ first next. read_gathering what n first next) has r

  pub reads_so : (what : Aim) (h made : Handle) (o : Outcome) (us : List Use) → HasTape t made → ReadsAt what login n h o us made → StepSo login t n aim statement h made (read_step what n) o us
  reads_so what Absent made o us has r = absent_so login t all n aim statement (read_step what n) (read_named what n) made o us has r
  reads_so what (Dialing left) made o us has r = dialing_so login t all n aim statement (read_step what n) (read_named what n) left made o us (read_dialing what n n) has r
  reads_so what (Joined false k x) made o us has r = gone_so login t all n aim statement (read_step what n) (read_named what n) k x made o us has r
  reads_so what (Joined true k x) made o us has r = reads_on what k.pending k x made o us refl has r
