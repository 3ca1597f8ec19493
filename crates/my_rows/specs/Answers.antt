-- The answer to a query or to an executed statement: the call that begins it, what is read of it, and how its rest is
-- dropped.
use Rattle.std.specs.Prelude.{◌≡◌}
use Rattle.std.specs.declared.result.Result.{Result}
use Rattle.std.specs.declared.result.Result.TheVariants.{Ok, Err}
use Rattle.my_link.specs.Looks.{Looks}
use Rattle.my_reading.specs.declared.call.Call.TheVariants as calls
use Rattle.my_reading.specs.declared.call.CallKind.TheVariants as kinds
use Rattle.my_reading.specs.declared.error.Error.{Error}
use Rattle.my_conn.specs.Conn.{ConnSeen}
use Rattle.my_conn.specs.Drives.{DoneIs}
use Rattle.my_rows.specs.declared.error.QueryError.{QueryError}
use Rattle.my_rows.specs.declared.error.QueryError.TheVariants.{Client}

-- the value, unless the rest couldn't be dropped
abbrev pub value_after : {A : Type 0} → A → Result (Unit {0}) Error → Result A QueryError
value_after value (Ok done) = Ok value
value_after value (Err error) = Err (Client error)

-- Where reading gave a value, the rest was dropped; where it failed, no call followed.
abbrev pub RestIs : {L A : Type 0} → (L → Looks) → Result A QueryError → ConnSeen L → ConnSeen L → Result A QueryError → Type 0
RestIs look (Ok value) old new result = (r : Result (Unit {0}) Error) × (result ≡ value_after value r)
    × DoneIs look kinds.DropResult calls.DropResult old new r
RestIs look (Err error) old new result = (result ≡ Err error) × (new ≡ old)

-- Where the call that begins an answer was done, this was read of it, and the rest dropped; where it failed, no call
-- followed.
abbrev pub ReadIs : {L A : Type 0} → (L → Looks) → (ConnSeen L → ConnSeen L → Result A QueryError → Type 0) → Result (Unit {0}) Error
    → ConnSeen L → ConnSeen L → Result A QueryError → Type 0
ReadIs {L} {A} look reads (Ok done) old new result = (r : Result A QueryError) × (mid : ConnSeen L) × reads old mid r
    × RestIs look r mid new result
ReadIs look reads (Err error) old new result = (result ≡ Err (Client error)) × (new ≡ old)

-- An answer was begun so, this was read of it, and the rest dropped. The first of these that failed was the last.
abbrev pub AnswerIs : {L A : Type 0} → (L → Looks) → (ConnSeen L → ConnSeen L → Result (Unit {0}) Error → Type 0)
    → (ConnSeen L → ConnSeen L → Result A QueryError → Type 0) → ConnSeen L → ConnSeen L → Result A QueryError → Type 0
AnswerIs {L} look begins reads old new result = (r : Result (Unit {0}) Error) × (mid : ConnSeen L) × begins old mid r
    × ReadIs look reads r mid new result

-- Nothing was read.
abbrev pub NothingIs : {L : Type 0} → ConnSeen L → ConnSeen L → Result (Unit {0}) QueryError → Type 0
NothingIs old new result = (result ≡ Ok tt) × (new ≡ old)
