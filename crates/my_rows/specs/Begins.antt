-- How an answer is begun: by a text, or by a statement that is known or prepared for it.
use Rattle.std.specs.Prelude.{ℕ, ◌≡◌, ◌⊎◌, List}
use Rattle.std.specs.declared.result.Result.{Result}
use Rattle.std.specs.declared.result.Result.TheVariants.{Ok, Err}
use Rattle.my_link.specs.Looks.{Looks}
use Rattle.my_params.specs.declared.params.Params.{Params}
use Rattle.my_reading.specs.declared.call.Call.{Call}
use Rattle.my_reading.specs.declared.call.Call.TheVariants as calls
use Rattle.my_reading.specs.declared.call.CallKind.{CallKind}
use Rattle.my_reading.specs.declared.call.CallKind.TheVariants as kinds
use Rattle.my_reading.specs.declared.error.Error.{Error}
use Rattle.my_reading.specs.declared.error.Error.TheVariants as errors
use Rattle.my_statements.specs.Prepared.{StatementView}
use Rattle.my_conn.specs.Conn.{ConnSeen}
use Rattle.my_conn.specs.Drives.{DoneIs, PrepareIs}
use Rattle.my_rows.specs.declared.statement_like.ToStatementResult.{ToStatementResult}
use Rattle.my_rows.specs.declared.statement_like.ToStatementResult.TheVariants.{Immediate, Mediate}

-- Memory ran out before a call was made.
abbrev pub UnsentIs : {L A : Type 0} → ConnSeen L → ConnSeen L → Result A Error → Type 0
UnsentIs old new result = (result ≡ Err errors.NoMemory) × (new ≡ old)

-- A query of this text was sent.
abbrev pub QueryIs : {L : Type 0} → (L → Looks) → List ℕ → ConnSeen L → ConnSeen L → Result (Unit {0}) Error → Type 0
QueryIs look text old new result = DoneIs look kinds.Query (calls.Query text) old new result ⊎ UnsentIs old new result

-- The statement itself, for which no call is made; or the one that was prepared of the text.
abbrev pub NamedIs : {L : Type 0} → (L → Looks) → ToStatementResult → ConnSeen L → ConnSeen L → Result StatementView Error → Type 0
NamedIs look (Immediate statement) old new result = (result ≡ Ok statement) × (new ≡ old)
NamedIs look (Mediate text) old new result = PrepareIs look text old new result

-- The statement that is named.
abbrev pub StatementIs : {L : Type 0} → (L → Looks) → ToStatementResult → ConnSeen L → ConnSeen L → Result StatementView Error → Type 0
StatementIs look named old new result = NamedIs look named old new result ⊎ UnsentIs old new result

-- This call of the statement was made. Where there is none, no call followed.
abbrev pub CalledIs : {L : Type 0} → (L → Looks) → CallKind → (StatementView → Call) → Result StatementView Error
    → ConnSeen L → ConnSeen L → Result (Unit {0}) Error → Type 0
CalledIs look c call_of (Ok statement) old new result = DoneIs look c (call_of statement) old new result
CalledIs look c call_of (Err error) old new result = (result ≡ Err error) × (new ≡ old)

-- This call of the statement that is named was made.
abbrev pub CallNamedIs : {L : Type 0} → (L → Looks) → CallKind → (StatementView → Call) → ToStatementResult
    → ConnSeen L → ConnSeen L → Result (Unit {0}) Error → Type 0
CallNamedIs {L} look c call_of named old new result = (s : Result StatementView Error) × (mid : ConnSeen L)
    × StatementIs look named old mid s × CalledIs look c call_of s mid new result

-- The statement that is named was executed with these parameters.
abbrev pub ExecuteIs : {L : Type 0} → (L → Looks) → ToStatementResult → Params → ConnSeen L → ConnSeen L
    → Result (Unit {0}) Error → Type 0
ExecuteIs look named params old new result =
    CallNamedIs look kinds.Execute (λ s. calls.Execute s params) named old new result

-- The statement that is named was executed once with each of these parameters.
abbrev pub BatchIs : {L : Type 0} → (L → Looks) → ToStatementResult → List Params → ConnSeen L → ConnSeen L
    → Result (Unit {0}) Error → Type 0
BatchIs look named lists old new result = CallNamedIs look kinds.Batch (λ s. calls.Batch s lists) named old new result
