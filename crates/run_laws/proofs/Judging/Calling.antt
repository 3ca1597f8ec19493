-- A step that begins a call, or tells the last OK; a line that gathers rows.
use Rattle.std.proofs.Common.{◌≡◌, ℕ, List, [], length, slice_get, map, Bool, true, false, ◌&&◌, Option, Some, None, refl, sym, ap, ◌∙◌, subst, if◌then◌else◌}
use Rattle.my_value.specs.RowParts.{RowParts}
use Rattle.my_opts.specs.ChangeUser.{ChangeView}
use Rattle.my_opts_parts.specs.TransactionOptions.{TxView}
use Rattle.my_params.specs.declared.params.Params.{Params}
use Rattle.my_statements.specs.Prepared.{StatementView}
use Rattle.my_grammar.specs.declared.login.Login.{Login}
use Rattle.my_link.specs.Looks.{Looks}
use Rattle.my_reading.specs.declared.call.Call.{Call}
use Rattle.my_reading.specs.declared.call.Call.TheVariants as calls
use Rattle.my_reading.specs.Calls.{kind_of}
use Rattle.my_reading.specs.Endings.{AreCalls}
use Rattle.my_reading.specs.Errors.{connection_closed}
use Rattle.my_reading.specs.Place.{Place, facts_at, is_taken}
use Rattle.my_reading.specs.Reading.{reading}
use Rattle.my_reading.specs.Tape.{Tape}
use Rattle.my_client.specs.Made.{has_closed}
use Rattle.my_session.specs.Sessions.{is_refused}
use Rattle.my_script.specs.declared.aim.Aim.{Aim}
use Rattle.my_script.specs.declared.step.Step.{Step}
use Rattle.my_script.specs.Streams.{is_skip, target}
use Rattle.my_script.specs.declared.step.Step.TheVariants as steps
use Rattle.my_script.specs.declared.transcript.Outcome.{Outcome}
use Rattle.my_script.specs.declared.transcript.Outcome.TheVariants as outcomes
use Rattle.my_script.specs.declared.transcript.Use.{Use}
use Rattle.my_run_judge.specs.declared.act.Act.TheVariants.{Skips, Tells, Polls}
use Rattle.my_run_judge.specs.declared.act.Status.TheVariants as status
use Rattle.my_run_judge.specs.Acts.{act_of, asked, at_dialing, at_gathering, at_idle, at_open, begun_by, gathering, ground_of, polled_once}
use Rattle.my_client.specs.Kept.{Asked, Kept, asking, asked_by, made_of}
use Rattle.my_client.specs.Reads.{facts_kept}
use Rattle.my_steps.specs.Grows.{Begins, BeginsOn, Calls, TellsFields, TellsWith, shown}
use Rattle.my_steps.specs.Handle.{Handle, Absent, Dialing, Joined}
use Rattle.my_run_judge.specs.declared.walk.Spot.{Spot}
use Rattle.my_run_judge.specs.Lines.{ArePolled, IsBegun, begun_in, first_of, after_polls, ground_at, is_pending}
use Rattle.my_run_judge.specs.Walks.{Walk}
use Rattle.run_laws.proofs.Judging.Going.{before_begin, shown_call, shown_tape}
use Rattle.run_laws.proofs.Judging.Tying.{AtWalk, at_begin, place_at_rest}
use Rattle.run_laws.proofs.Judging.Polling.{begins_here, may_end}
use Rattle.run_laws.proofs.Judging.Gathering.{Forth, GatherState, HasTape}
use Rattle.run_laws.proofs.Judging.Stepping.{LineSo, OnceSo, OpenAs, Spotted, StepSo, absent_so, closed_so, dialing_so, gone_so, here_act, once_so, open_so}

-- what a step that begins a call does, by what the walk takes the connection for
pub record Asks (n : ℕ) (statement : Option StatementView) (step : Step) (call : Call) : Type 0 where
  pub named : target step ≡ Some n
  pub begun : (taken : Bool) → begun_by taken statement step ≡ Some call
  pub plain : is_skip (kind_of call) ≡ false
  pub dialing : at_dialing n step outcomes.NoSuchHandle 0 ≡ Skips status.Dialing
  pub idle : (closed taken : Bool) (next : ℕ) (o : Outcome) (uses : ℕ) → at_idle (ground_of closed taken) next step o uses ≡ asked (ground_of (is_refused closed (kind_of call)) taken) o uses
  pub opens : (aim : Aim) (next : ℕ) → at_open aim n next step outcomes.NoSuchHandle 0 ≡ Skips status.Open
  pub gathers : (first next : ℕ) → at_gathering first next step outcomes.NoSuchHandle 0 ≡ Skips (status.Gathers first)

closed_and : (closed : Bool) → closed ≡ closed && true
closed_and true = refl
closed_and false = refl

never_and : (closed : Bool) → false ≡ closed && false
never_and true = refl
never_and false = refl

asked_open : (taken : Bool) (o : Outcome) (uses : ℕ) → asked (ground_of false taken) o uses ≡ polled_once o uses
asked_open true o uses = refl
asked_open false o uses = refl

pub asks_query : (n : ℕ) (statement : Option StatementView) (text : List ℕ) → Asks n statement (steps.Query n text) (calls.Query text)
asks_query n statement text = record { named = refl; begun = λ taken. refl; plain = refl; dialing = refl; idle = λ closed taken next o uses. ap (λ b. asked (ground_of b taken) o uses) (closed_and closed); opens = λ aim next. refl; gathers = λ first next. refl }

pub asks_prepare : (n : ℕ) (statement : Option StatementView) (text : List ℕ) → Asks n statement (steps.Prepare n text) (calls.Prepare text)
asks_prepare n statement text = record { named = refl; begun = λ taken. refl; plain = refl; dialing = refl; idle = λ closed taken next o uses. ap (λ b. asked (ground_of b taken) o uses) (closed_and closed); opens = λ aim next. refl; gathers = λ first next. refl }

-- a statement that is there is executed, or closed by its id
pub asks_execute : (n : ℕ) (prepared : StatementView) (number : ℕ) (params : Params) → Asks n (Some prepared) (steps.Execute n number params) (calls.Execute prepared params)
asks_execute n prepared number params = record { named = refl; begun = λ taken. refl; plain = refl; dialing = refl; idle = λ closed taken next o uses. ap (λ b. asked (ground_of b taken) o uses) (closed_and closed); opens = λ aim next. refl; gathers = λ first next. refl }

pub asks_close : (n : ℕ) (prepared : StatementView) (number : ℕ) → Asks n (Some prepared) (steps.CloseStatement n number) (calls.CloseStmt prepared.inner.id)
asks_close n prepared number = record { named = refl; begun = λ taken. refl; plain = refl; dialing = refl; idle = λ closed taken next o uses. ap (λ b. asked (ground_of b taken) o uses) (closed_and closed); opens = λ aim next. refl; gathers = λ first next. refl }

pub asks_drop : (n : ℕ) (statement : Option StatementView) → Asks n statement (steps.Drop n) calls.DropResult
asks_drop n statement = record { named = refl; begun = λ taken. refl; plain = refl; dialing = refl; idle = λ closed taken next o uses. ap (λ b. asked (ground_of b taken) o uses) (closed_and closed); opens = λ aim next. refl; gathers = λ first next. refl }

pub asks_ping : (n : ℕ) (statement : Option StatementView) → Asks n statement (steps.Ping n) calls.Ping
asks_ping n statement = record { named = refl; begun = λ taken. refl; plain = refl; dialing = refl; idle = λ closed taken next o uses. ap (λ b. asked (ground_of b taken) o uses) (closed_and closed); opens = λ aim next. refl; gathers = λ first next. refl }

pub asks_reset : (n : ℕ) (statement : Option StatementView) → Asks n statement (steps.Reset n) calls.Reset
asks_reset n statement = record { named = refl; begun = λ taken. refl; plain = refl; dialing = refl; idle = λ closed taken next o uses. ap (λ b. asked (ground_of b taken) o uses) (closed_and closed); opens = λ aim next. refl; gathers = λ first next. refl }

pub asks_user : (n : ℕ) (statement : Option StatementView) (change : ChangeView) → Asks n statement (steps.User n change) (calls.ChangeUser change)
asks_user n statement change = record { named = refl; begun = λ taken. refl; plain = refl; dialing = refl; idle = λ closed taken next o uses. ap (λ b. asked (ground_of b taken) o uses) (closed_and closed); opens = λ aim next. refl; gathers = λ first next. refl }

pub asks_begin : (n : ℕ) (statement : Option StatementView) (opts : TxView) → Asks n statement (steps.Begin n opts) (calls.Begin opts)
asks_begin n statement opts = record { named = refl; begun = λ taken. refl; plain = refl; dialing = refl; idle = λ closed taken next o uses. ap (λ b. asked (ground_of b taken) o uses) (closed_and closed); opens = λ aim next. refl; gathers = λ first next. refl }

pub asks_commit : (n : ℕ) (statement : Option StatementView) → Asks n statement (steps.Commit n) calls.Commit
asks_commit n statement = record { named = refl; begun = λ taken. refl; plain = refl; dialing = refl; idle = λ closed taken next o uses. ap (λ b. asked (ground_of b taken) o uses) (closed_and closed); opens = λ aim next. refl; gathers = λ first next. refl }

pub asks_rollback : (n : ℕ) (statement : Option StatementView) → Asks n statement (steps.Rollback n) calls.Rollback
asks_rollback n statement = record { named = refl; begun = λ taken. refl; plain = refl; dialing = refl; idle = λ closed taken next o uses. ap (λ b. asked (ground_of b taken) o uses) (closed_and closed); opens = λ aim next. refl; gathers = λ first next. refl }

pub asks_forget : (n : ℕ) (statement : Option StatementView) → Asks n statement (steps.ForgetTransaction n) calls.ForgetTransaction
asks_forget n statement = record { named = refl; begun = λ taken. refl; plain = refl; dialing = refl; idle = λ closed taken next o uses. sym (asked_open taken o uses) ∙ ap (λ b. asked (ground_of b taken) o uses) (never_and closed); opens = λ aim next. refl; gathers = λ first next. refl }

pub asks_quit : (n : ℕ) (statement : Option StatementView) → Asks n statement (steps.Quit n) calls.Quit
asks_quit n statement = record { named = refl; begun = λ taken. refl; plain = refl; dialing = refl; idle = λ closed taken next o uses. sym (asked_open taken o uses) ∙ ap (λ b. asked (ground_of b taken) o uses) (never_and closed); opens = λ aim next. refl; gathers = λ first next. refl }

module _ (login : Login) (t : Tape) (all : AreCalls login (reading login t).calls) (n : ℕ) (aim : Aim) (statement : Option StatementView) where
  module _ (step : Step) (call : Call) (w : Asks n statement step call) where
    idle_at : (k : Kept) (v : Walk) → k.pending ≡ None → AtWalk login k v → Spotted t true k.pending v.spot → (o : Outcome) (uses : ℕ)
        → act_of aim v.spot.status n v.spot.next (ground_at v) step o uses ≡ asked (ground_of (is_refused (has_closed (made_of k.calls)) (kind_of call)) (is_taken v.place)) o uses
    idle_at k v none at s o uses =
        here_act aim status.Idle v.spot.status n v.spot.next (ground_at v) step o uses refl (subst (λ q. Spotted t true q v.spot) none s) w.named
        ∙ w.idle v.closed (is_taken v.place) v.spot.next o uses
        ∙ ap (λ b. asked (ground_of (is_refused b (kind_of call)) (is_taken v.place)) o uses) at.closed_is

    begins_so : (b : Bool) (k : Kept) (x : Looks) (made : Handle) (o : Outcome) (us : List Use) → k.pending ≡ None → is_refused (has_closed (made_of k.calls)) (kind_of call) ≡ b → HasTape t made → Begins b login n call k x o us made
        → StepSo login t n aim statement (Joined true k x) made step o us
    begins_so true k x made o us none shut has r =
        closed_so login t all n aim statement step w.named call k x made o us none has r (λ v at. w.begun _)
        (λ v at e is. w.idle v.closed (is_taken v.place) v.spot.next (outcomes.Failed connection_closed) 0 ∙ ap (λ b. asked (ground_of (is_refused b (kind_of call)) (is_taken v.place)) (outcomes.Failed connection_closed) 0) at.closed_is ∙ ap (λ b. asked (ground_of b (is_taken v.place)) (outcomes.Failed connection_closed) 0) shut)
    begins_so false k x made o us none shut has r =
        let s : OnceSo login t all n aim statement step w.named (asking k call None) made o us = once_so login t all n aim statement step w.named (asking k call None) (asked_by k call) x made o us refl shut refl has r (may_end (shown r.after) call w.plain) in
        record {
          back = (s.back.0, before_begin t k call None s.back.0 none s.back.1);
          forth = λ v tied.
              s.forth v (at_begin login k call None v none tied.1) (idle_at k v none tied.1 tied.0 o 1 ∙ ap (λ b. asked (ground_of b (is_taken v.place)) o 1) shut ∙ asked_open (is_taken v.place) o 1)
              (subst (λ b. IsBegun b (slice_get (map shown_call t.calls) v.spot.next)) (sym (w.begun _)) (begins_here t (asking k call None) (asked_by k call) v.spot.next tied.1.next_is refl s.back));
        }

    begins_on : (q : Option Asked) (k : Kept) (x : Looks) (made : Handle) (o : Outcome) (us : List Use) → k.pending ≡ q → HasTape t made → BeginsOn q login n call k x o us made → StepSo login t n aim statement (Joined true k x) made step o us
    begins_on None k x made o us e has r = begins_so (is_refused (has_closed (made_of k.calls)) (kind_of call)) k x made o us e refl has r
    begins_on (Some a) k x made o us e has r = open_so login t all n aim statement step w.named k x a made o us e (w.opens aim) w.gathers has r

    pub calls_so : (h made : Handle) (o : Outcome) (us : List Use) → HasTape t made → Calls login n call h o us made → StepSo login t n aim statement h made step o us
    calls_so Absent made o us has r = absent_so login t all n aim statement step w.named made o us has r
    calls_so (Dialing left) made o us has r = dialing_so login t all n aim statement step w.named left made o us w.dialing has r
    calls_so (Joined false k x) made o us has r = gone_so login t all n aim statement step w.named k x made o us has r
    calls_so (Joined true k x) made o us has r = begins_on k.pending k x made o us refl has r

  -- a line that gathers rows
  pub gathered_spot : (o : Outcome) (first : ℕ) (end : Kept) (s : Spot) → GatherState t (is_pending o) end first s.next
      → Spotted t true end.pending (record { status = (if is_pending o then status.Gathers first else status.Idle); next = s.next; from = s.from; taken = s.taken })
  gathered_spot o first end s g = by_pending (is_pending o) g
    where
      by_pending : (b : Bool) → GatherState t b end first s.next → Spotted t true end.pending (record { status = (if b then status.Gathers first else status.Idle); next = s.next; from = s.from; taken = s.taken })
      by_pending true (a, e, at) =
          subst (λ q. Spotted t true q (record { status = status.Gathers first; next = s.next; from = s.from; taken = s.taken })) (sym e)
          (subst (λ (rs : Option (List RowParts)). OpenAs t a rs (record { status = status.Gathers first; next = s.next; from = s.from; taken = s.taken })) (sym at.rows_are) (first, at.low, refl, at))
      by_pending false e = subst (λ q. Spotted t true q (record { status = status.Idle; next = s.next; from = s.from; taken = s.taken })) (sym e) refl

  pub gathered_line : (step : Step) (us : List Use) (o : Outcome) (made : Handle) (w : Walk) (first : ℕ) → Forth login t all n us o first made w
      → act_of aim w.spot.status n w.spot.next (ground_at w) step o (length us) ≡ gathering first o → first_of w.spot.status w.spot.next ≡ first
      → IsBegun (begun_in statement w step) (slice_get (map shown_call t.calls) w.spot.next) → LineSo login t n aim statement made step o us w
  gathered_line step us o made w first f acts same begun =
      subst (λ (z : Handle). LineSo login t n aim statement z step o us w) (sym f.to.is) (record {
        act = Polls (if is_pending o then status.Gathers first else status.Idle);
        act_is = acts ∙ f.to.acts;
        right = (begun, subst (λ m. ArePolled login n (shown_tape t) o m us w) (sym same) f.polls, f.told (facts_at login (after_polls login (shown_tape t) o us w).place));
        tied = (gathered_spot o first f.to.end (after_polls login (shown_tape t) o us w).spot f.to.state, f.to.walk);
      })

  -- the last OK is told
  tells_with : (q : Option Asked) (k : Kept) (x : Looks) (made : Handle) (o : Outcome) (us : List Use) → k.pending ≡ q → HasTape t made → TellsWith q login k x o us made → StepSo login t n aim statement (Joined true k x) made (steps.Fields n) o us
  tells_with None k x made o us none has r = record {
    back = subst (HasTape t) r.left has;
    forth = λ w tied.
        subst (λ (z : Handle). LineSo login t n aim statement z (steps.Fields n) o us w) (sym r.left)
        (subst (λ (vs : List Use). LineSo login t n aim statement (Joined true k x) (steps.Fields n) o vs w) (sym r.uses)
        (subst (λ (z : Outcome). LineSo login t n aim statement (Joined true k x) (steps.Fields n) z [] w) (sym r.outcome) (record {
          act = Tells;
          act_is = here_act aim status.Idle w.spot.status n w.spot.next (ground_at w) (steps.Fields n) (outcomes.Fields (facts_kept login k).ok) 0 refl (subst (λ q. Spotted t true q w.spot) none tied.0) refl;
          right = ap (λ (p : Place). (facts_at login p).ok) (place_at_rest login k w.closed w.place none tied.1.reads);
          tied = tied;
        })));
  }
  tells_with (Some a) k x made o us e has r = open_so login t all n aim statement (steps.Fields n) refl k x a made o us e (λ next. refl) (λ first next. refl) has r

  pub tells_so : (h made : Handle) (o : Outcome) (us : List Use) → HasTape t made → TellsFields login h o us made → StepSo login t n aim statement h made (steps.Fields n) o us
  tells_so Absent made o us has r = absent_so login t all n aim statement (steps.Fields n) refl made o us has r
  tells_so (Dialing left) made o us has r = dialing_so login t all n aim statement (steps.Fields n) refl left made o us refl has r
  tells_so (Joined false k x) made o us has r = gone_so login t all n aim statement (steps.Fields n) refl k x made o us has r
  tells_so (Joined true k x) made o us has r = tells_with k.pending k x made o us refl has r
