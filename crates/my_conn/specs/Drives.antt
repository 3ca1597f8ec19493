-- What a call that waits does.
use Rattle.std.specs.Prelude.{ℕ, ◌≡◌, ◌+◌, ◌<◌, ◌≤◌, ◌⊎◌, List, Bool, None, true, false, is_some}
use Rattle.std.specs.declared.result.Result.{Result}
use Rattle.std.specs.declared.result.Result.TheVariants.{Ok, Err}
use Rattle.my_frame.specs.declared.limits.TheConstants.{MOST_TAKEN}
use Rattle.my_grammar.specs.declared.login.Login.{Login}
use Rattle.my_link.specs.Looks.{Looks}
use Rattle.my_reading.specs.declared.answer.Answer.{Answer}
use Rattle.my_reading.specs.declared.answer.Answer.TheVariants as answers
use Rattle.my_reading.specs.declared.call.Call.{Call}
use Rattle.my_reading.specs.declared.call.Call.TheVariants as calls
use Rattle.my_reading.specs.declared.call.CallKind.{CallKind}
use Rattle.my_reading.specs.declared.call.CallKind.TheVariants as kinds
use Rattle.my_reading.specs.declared.call.CallKind.TheVariants.{ForgetTransaction, Quit}
use Rattle.my_reading.specs.declared.error.DriverError.TheVariants.{TooLong}
use Rattle.my_reading.specs.declared.error.Error.{Error}
use Rattle.my_reading.specs.declared.error.Error.TheVariants as errors
use Rattle.my_reading.specs.Errors.{connection_closed}
use Rattle.my_statements.specs.Prepared.{StatementView}
use Rattle.my_client.specs.Kept.{Kept}
use Rattle.my_client.specs.Lives.{Lives, made_in}
use Rattle.my_client.specs.StandsFor.{StandsFor}
use Rattle.my_client.specs.Waits.{DriveRefused, Driven, Goes, ResultFits}
use Rattle.my_client.specs.declared.handshake.TheConstants.{TOO_LONG}
use Rattle.my_conn.specs.Answers.{done_of, next_of, taken_of}
use Rattle.my_conn.specs.declared.drive.NextAnswer.{NextAnswer}
use Rattle.my_conn.specs.Conn.{ConnSeen, session_of}

-- at least 2^40 bytes were taken in it without an answer: this many
abbrev pub IsTooLong : {L : Type 0} → (L → Looks) → Call → ConnSeen L → ConnSeen L → ℕ → Type 0
IsTooLong look call old new n = (TOO_LONG ≤ n) × ((login : Login) (k : Kept)
    → StandsFor login old.seen old.tape old.pending k → (f : Kept) × Goes login call (look old.link) (look new.link) k f n)

abbrev pub lost_result : CallKind → Result Answer Error
lost_result ForgetTransaction = Ok answers.Ready
lost_result Quit = Ok answers.Ready
lost_result _ = Err connection_closed

-- A call that waits, at the moment that was set. For all that the connection may have done before there is what it did
-- then: the same, and this call. It is lost where memory ran out, and where the call was given up.
pub record DriveIs {L : Type 0} (look : L → Looks) (c : CallKind) (call : Call) (old new : ConnSeen L) (r : Result Answer Error)
    : Type 0 where
  pub count : ℕ
  -- a call that took 2^40 bytes is polled no more, and one poll takes at most MOST_TAKEN
  pub bound : count < TOO_LONG + MOST_TAKEN
  pub each : old.lost ≡ false → new.lost ≡ false → (login : Login) (k : Kept)
      → StandsFor login old.seen old.tape old.pending k
      → (end : Kept) × StandsFor login new.seen new.tape None end
      × (Driven login call (look old.link) (look new.link) k count r end
      ⊎ DriveRefused call (look old.link) (look new.link) k count r end)
  pub lives : old.lost ≡ false → new.lost ≡ false → Lives old.fixed.now count (session_of old) (session_of new)
  -- what the session was made with, also where the connection is lost
  pub made : made_in (session_of new) ≡ made_in (session_of old)
  pub loses : old.lost ≡ false → new.lost ≡ true
      → (r ≡ Err errors.NoMemory) ⊎ ((r ≡ Err (errors.Driver TooLong)) × IsTooLong look call old new count)
  pub lost : old.lost ≡ true → (new ≡ old) × (r ≡ lost_result c)
  -- where a tape was kept it is kept
  pub keeps : new.lost ≡ false → is_some new.tape ≡ is_some old.tape
  pub fixed : new.fixed ≡ old.fixed
  pub pending : new.pending ≡ None
  pub fits : ResultFits c r

-- what a caller gets of its result
abbrev pub waited_by : {A : Type 0} → (Answer → A) → Result Answer Error → Result A Error
waited_by answer_of (Ok answer) = Ok (answer_of answer)
waited_by answer_of (Err error) = Err error

abbrev pub WaitIs : {L A : Type 0} → (L → Looks) → (Answer → A) → CallKind → Call → ConnSeen L → ConnSeen L → Result A Error → Type 0
WaitIs look answer_of c call old new result = (r : Result Answer Error) × (result ≡ waited_by answer_of r)
    × DriveIs look c call old new r

abbrev pub DoneIs : {L : Type 0} → (L → Looks) → CallKind → Call → ConnSeen L → ConnSeen L → Result (Unit {0}) Error → Type 0
DoneIs look c call old new result = WaitIs look done_of c call old new result

abbrev pub NextIs : {L : Type 0} → (L → Looks) → ConnSeen L → ConnSeen L → Result NextAnswer Error → Type 0
NextIs look old new result = WaitIs look next_of kinds.NextRow calls.NextRow old new result

-- The connection is ended, and this is its link as that left it.
abbrev pub EndIs : {L : Type 0} → (L → Looks) → ConnSeen L → Result (Unit {0}) Error × L → Type 0
EndIs {L} look old result = (end : ConnSeen L) × DoneIs look kinds.Quit calls.Quit old end result.0 × (result.1 ≡ end.link)

-- a set is taken
abbrev pub TakeIs : {L : Type 0} → (L → Looks) → ConnSeen L → ConnSeen L → Result Bool Error → Type 0
TakeIs look old new result = WaitIs look taken_of kinds.TakeSet calls.TakeSet old new result

-- what a caller gets of a call that is answered by a value: the one that is in the answer
abbrev pub GivenBy : {A : Type 0} → (A → Answer) → Result Answer Error → Result A Error → Type 0
GivenBy answer_with r (Ok value) = r ≡ Ok (answer_with value)
GivenBy answer_with r (Err error) = r ≡ Err error

abbrev pub GiveIs : {L A : Type 0} → (L → Looks) → (A → Answer) → CallKind → Call → ConnSeen L → ConnSeen L → Result A Error → Type 0
GiveIs look answer_with c call old new result = (r : Result Answer Error) × GivenBy answer_with r result × DriveIs look c call old new r

-- the statement that was prepared
abbrev pub PrepareIs : {L : Type 0} → (L → Looks) → List ℕ → ConnSeen L → ConnSeen L → Result StatementView Error → Type 0
PrepareIs look text old new result = GiveIs look answers.Stmt kinds.Prepare (calls.Prepare text) old new result

-- whether the server could reset its session
abbrev pub ResetIs : {L : Type 0} → (L → Looks) → ConnSeen L → ConnSeen L → Result Bool Error → Type 0
ResetIs look old new result = GiveIs look answers.Flag kinds.Reset calls.Reset old new result
