-- What a transcript shows of one connection, of which each call was polled once.
use Rattle.std.specs.Prelude.{ℕ, ◌≡◌, ◌+◌, List, [], ◌∷◌, ◌++◌, length, map, Option, Some, None, Bool, true, false, ◌&&◌}
use Rattle.my_handshake.specs.declared.version.ServerVersion.{ServerVersion}
use Rattle.my_reply.specs.declared.ok.OkPacket.{OkPacket}
use Rattle.my_grammar.specs.declared.login.Login.{Login}
use Rattle.my_reading.specs.declared.call.Call.{Call}
use Rattle.my_reading.specs.declared.call.Call.TheVariants as calls
use Rattle.my_reading.specs.declared.call.CallKind.{CallKind}
use Rattle.my_reading.specs.declared.call.CallKind.TheVariants as kinds
use Rattle.my_reading.specs.Calls.{kind_of}
use Rattle.my_reading.specs.Tape.{Span}
use Rattle.my_reading.specs.Told.{Told, ToldReady, ToldRow, ToldEnd, ToldNone, ToldStatement, ToldFlag, ToldError, ToldPassed, Dropped}
use Rattle.my_script.specs.declared.step.Step.{Step}
use Rattle.my_script.specs.declared.step.Step.TheVariants as steps
use Rattle.my_script.specs.declared.transcript.Outcome.{Outcome}
use Rattle.my_script.specs.declared.transcript.Outcome.TheVariants.{Done, Pending, SetEnd, NoSet, Row, Prepared, Flag, Fields, Connected, Failed, NoSuchHandle}
use Rattle.my_script.specs.declared.transcript.StepAnswer.{StepAnswer}
use Rattle.my_script.specs.declared.transcript.Tape.{Tape}
use Rattle.my_script.specs.declared.transcript.Use.{Use}
use Rattle.my_link.specs.World.{Plans}
use Rattle.my_steps.specs.Dialing.{Course}
use Rattle.my_run.specs.Headline.{Headline}
use Rattle.reading_laws.specs.Bytes.{all_sent, all_taken, calls_from}

-- the calls that a step makes by itself; those of a statement are shown by none, since their steps name its number
abbrev pub is_stepped : CallKind → Bool
is_stepped kinds.Query = true
is_stepped kinds.Prepare = true
is_stepped kinds.NextRow = true
is_stepped kinds.DropResult = true
is_stepped kinds.Ping = true
is_stepped kinds.Reset = true
is_stepped kinds.ChangeUser = true
is_stepped kinds.Begin = true
is_stepped kinds.Commit = true
is_stepped kinds.Rollback = true
is_stepped kinds.ForgetTransaction = true
is_stepped kinds.Quit = true
is_stepped c = false

-- the step that makes a call on connection 0; those that no step makes are shown by none
abbrev pub step_of : Call → Step
step_of (calls.Query text) = steps.Query 0 text
step_of (calls.Prepare text) = steps.Prepare 0 text
step_of calls.NextRow = steps.Next 0
step_of calls.DropResult = steps.Drop 0
step_of calls.Ping = steps.Ping 0
step_of calls.Reset = steps.Reset 0
step_of (calls.ChangeUser change) = steps.User 0 change
step_of (calls.Begin opts) = steps.Begin 0 opts
step_of calls.Commit = steps.Commit 0
step_of calls.Rollback = steps.Rollback 0
step_of calls.ForgetTransaction = steps.ForgetTransaction 0
step_of calls.Quit = steps.Quit 0
step_of call = steps.Conn

-- the answer of a step whose call ended so, or is open
abbrev pub outcome_of : Option Told → Outcome
outcome_of None = Pending
outcome_of (Some ToldReady) = Done
outcome_of (Some (ToldRow row)) = Row row
outcome_of (Some ToldEnd) = SetEnd
outcome_of (Some ToldNone) = NoSet
outcome_of (Some (ToldStatement statement)) = Prepared statement
outcome_of (Some (ToldFlag flag)) = Flag flag
outcome_of (Some (ToldError e)) = Failed e
outcome_of (Some (Dropped closing)) = NoSuchHandle
outcome_of (Some (ToldPassed e)) = NoSuchHandle

-- how many bytes were received by the polls of a step
abbrev pub taken_in : List Use → ℕ
taken_in [] = 0
taken_in (u ∷ us) = u.met.taken + taken_in us

-- calls that a step begins
abbrev pub begun_by_step : List Span → Bool
begun_by_step [] = true
begun_by_step (s ∷ ss) = is_stepped (kind_of s.call) && begun_by_step ss

-- The transcript's first answer is that the connection was made; each other one is how its call ended. The uses say
-- how many bytes each call received, and the tape has the bytes of all calls, and where those sent by each begin.
pub record Shows (a : StepAnswer) (answers : List StepAnswer) (t : Tape) (s : Span) (ss : List Span) : Type 0 where
  pub id : ℕ
  pub version : ServerVersion
  pub made : a.outcome ≡ Connected 0 id version
  pub made_taken : taken_in a.uses.items ≡ length s.taken
  pub outcomes : map (λ b. b.outcome) answers ≡ map (λ c. outcome_of c.ending) ss
  pub taken : map (λ b. taken_in b.uses.items) answers ≡ map (λ c. length c.taken) ss
  pub sent_is : t.sent.items ≡ all_sent (s ∷ ss)
  pub taken_is : t.taken.items ≡ all_taken (s ∷ ss)
  pub starts : map (λ c. c.sent_from) t.calls.items ≡ map (λ c. c.sent_from) (calls_from 0 0 (s ∷ ss))

-- No run of these steps has a transcript that shows these calls.
abbrev pub NoTranscript : Login → Span → List Span → Type 0
NoTranscript login s ss = (plans : Plans) (before later : Course) (a : StepAnswer) (answers : List StepAnswer)
    (t : Tape)
    → Shows a answers t s ss
    → Headline login plans before later (steps.Conn ∷ map (λ c. step_of c.call) ss) (a ∷ answers) (t ∷ []) → ⊥

-- Nor has one of these steps and `fields` a transcript that shows these calls and then this OK.
abbrev pub NoFields : Login → Span → List Span → Option OkPacket → Type 0
NoFields login s ss fields = (plans : Plans) (before later : Course) (a b : StepAnswer) (answers : List StepAnswer)
    (t : Tape)
    → Shows a answers t s ss → b.outcome ≡ Fields fields
    → Headline login plans before later (steps.Conn ∷ (map (λ c. step_of c.call) ss ++ steps.Fields 0 ∷ []))
    (a ∷ (answers ++ b ∷ [])) (t ∷ []) → ⊥
