-- What a session does, by the steps of the reading.
use Rattle.std.specs.Prelude.{◌≡◌, ◌⊎◌, ℕ, List, [], drop, Bool, true, false, not, ◌&&◌, ◌||◌, Option, Some, None, if◌then◌else◌}
use Rattle.my_grammar.specs.declared.login.Login.{Login}
use Rattle.my_reply.specs.declared.column.Column.{Column}
use Rattle.my_statements.specs.Known.{known_of}
use Rattle.my_machine.specs.declared.progress.Progress.{Progress}
use Rattle.my_machine.specs.declared.stand.Stand.{Stand}
use Rattle.my_machine.specs.declared.step.Ending.TheVariants.{Answered, Failed}
use Rattle.my_machine.specs.declared.step.Stop.{Stop}
use Rattle.my_machine.specs.declared.step.Stop.TheVariants as stops
pub use Rattle.my_machine.specs.Closes.{closes_at}
use Rattle.my_machine.specs.Runs.{EachRuns}
use Rattle.my_machine.specs.Stands.{IsAt, with_bytes, with_owed}
use Rattle.my_reading.specs.declared.call.Call.{Call}
use Rattle.my_reading.specs.declared.call.CallKind.{CallKind}
use Rattle.my_reading.specs.declared.answer.Answer.TheVariants.{Ready}
use Rattle.my_reading.specs.declared.error.Error.TheVariants as errors
use Rattle.my_reading.specs.Calls.{is_unrefused, kind_of}
use Rattle.my_reading.specs.Errors.{unexpected_eof}
use Rattle.my_reading.specs.Place.{first_place, is_rows}
use Rattle.my_reading.specs.Told.{ToldError, closes, told}
use Rattle.my_session.specs.declared.answer.SessionStep.{SessionStep}
use Rattle.my_session.specs.declared.answer.SessionStep.TheVariants as steps
use Rattle.my_session.specs.declared.answer.LinkFault.{LinkFault}
use Rattle.my_session.specs.declared.answer.LinkFault.TheVariants as faults
use Rattle.my_session.specs.LinkErrors.{link_error}
use Rattle.my_session.specs.Rest.{has_transaction, rest_at}
use Rattle.my_session.specs.Begins.{is_begun_at}
use Rattle.my_session.specs.declared.opened.Opened.{Opened}

-- a session: its client, where the reading stands, the open call, whether it is closed, whether its link ended, and the fault by
-- which the open call fails at its next step
pub record Seen : Type 0 where
  pub login : Login
  pub stand : Stand
  pub opened : Option Opened
  pub closed : Bool
  pub ended : Bool
  pub fault : Option LinkFault

abbrev pub first_progress : Progress
first_progress = record { done = 0; reverting = false }

-- a call that begins
abbrev pub first_opened : Call → Opened
first_opened call = record { call = call; progress = first_progress }

-- before the first call
pub record IsBegun (login : Login) (s : Seen) : Type 0 where
  pub login_is : s.login ≡ login
  pub at : IsAt login (first_place login) s.stand
  pub idle : s.opened ≡ None
  pub closed : s.closed ≡ false
  pub ended : s.ended ≡ false
  pub fault : s.fault ≡ None

abbrev pub is_refused : Bool → CallKind → Bool
is_refused closed kind = closed && not (is_unrefused kind)

-- a call is open from now on
abbrev pub begun : Call → Seen → Seen
begun call s = record s { opened = Some (first_opened call); fault = None }

-- whether a call of this kind may begin: on an open session Connect before the greeting, each other one once it is connected
abbrev pub may_begin : CallKind → Seen → Bool
may_begin kind s = s.closed || is_begun_at kind s.stand.context.spot

-- whether a stream took the set that is read, or whose end is left
abbrev pub is_taken : Seen → Bool
is_taken s = s.stand.taken && (s.stand.end_left || is_rows s.stand.context.spot)

-- whether something is left of earlier calls: something of a response, or a transaction
abbrev pub is_dirty : Seen → Bool
is_dirty s = rest_at s.stand.context.spot s.stand.end_left || has_transaction s.stand.status

-- the columns that are known of a statement of this id: none on a closed session
abbrev pub known_by : ℕ → Seen → Option (List Column)
known_by id s = if s.closed then None else known_of id s.stand.statements.known

-- on a closed session nothing is owed
abbrev pub owed_by : Seen → List ℕ
owed_by s = if s.closed then [] else s.stand.owed

-- n bytes of those owed were sent
abbrev pub with_sent : ℕ → Seen → Seen
with_sent n s = if s.closed then s else record s { stand = with_owed (drop n s.stand.owed) s.stand }

-- these bytes were received
abbrev pub with_taken : List ℕ → Seen → Seen
with_taken bytes s = record s { stand = with_bytes [] bytes s.stand }

-- bytes were received for which there is no memory
abbrev pub lost_by : Option Opened → Seen → Seen
lost_by None s = record s { closed = true }
lost_by (Some o) s = record s { fault = Some faults.NoMemory }

abbrev pub lost : Seen → Seen
lost s = lost_by s.opened s

-- the open call ended, and the session is closed or isn't
abbrev pub ended_by : Bool → Seen → Seen
ended_by closes s = record s { opened = None; closed = closes }

abbrev pub fell : Seen → Seen
fell s = ended_by true s

-- an end of the link where bytes are awaited
abbrev pub HaltsAwaiting : Bool → Seen → Seen → SessionStep → Type 0
HaltsAwaiting false old new step = (step ≡ steps.Need) × (new ≡ old)
HaltsAwaiting true old new step = (step ≡ steps.Fault (unexpected_eof old.stand.facts.place)) × (new ≡ fell old)

-- what a stop of the call is for the caller
abbrev pub Halts : CallKind → Stop → Seen → Seen → SessionStep → Type 0
Halts kind stops.Owes old new step = (step ≡ steps.Send) × (new ≡ old)
Halts kind stops.Awaits old new step = HaltsAwaiting old.ended old new step
Halts kind (stops.Returns (Answered a)) old new step = (step ≡ steps.Done a) × (new ≡ ended_by (closes (told a) kind) old)
Halts kind (stops.Returns (Failed e)) old new step = (step ≡ steps.Fault e) × (new ≡ ended_by (closes (ToldError e) kind) old)

-- the call ran to this stop: the steps of the reading lead there, and the stand and the progress of the call changed with them
pub record Ran (o : Opened) (old mid : Seen) (kind : CallKind) (stop : Stop) : Type 0 where
  pub kind_is : kind ≡ kind_of o.call
  pub progress : Progress
  pub stand : Stand
  pub mid_is : mid ≡ record old { stand = stand; opened = Some (record { call = o.call; progress = progress }) }
  pub runs : EachRuns old.login o.call o.progress old.stand stop progress stand

-- the steps of the reading lead to a stop, which is the session's answer
pub record Reads (o : Opened) (old new : Seen) (step : SessionStep) : Type 0 where
  pub kind : CallKind
  pub stop : Stop
  pub mid : Seen
  pub ran : Ran o old mid kind stop
  pub halts : Halts kind stop mid new step

-- out of memory the session is closed
pub record IsOut (old new : Seen) (step : SessionStep) : Type 0 where
  pub step_is : step ≡ steps.Fault errors.NoMemory
  pub closed : new.closed ≡ true
  pub idle : new.opened ≡ None

abbrev pub StepsSo : Option LinkFault → Bool → Opened → Seen → Seen → SessionStep → Type 0
StepsSo (Some fault) closed o old new step = (step ≡ steps.Fault (link_error fault old.stand.facts.place)) × (new ≡ fell old)
StepsSo None true o old new step = (step ≡ steps.Done Ready) × (new ≡ fell old)
StepsSo None false o old new step = Reads o old new step ⊎ IsOut old new step

-- For each place at which the session may stand the steps of the reading lead to its answer.
abbrev pub IsStep : Opened → Seen → Seen → SessionStep → Type 0
IsStep o old new step = StepsSo old.fault old.closed o old new step
