-- Whether a connection is closed after a call of a result or of a stream.
use Rattle.std.specs.Prelude.{◌≡◌, ◌⊎◌, Bool, true, false, ◌||◌, Option, None}
use Rattle.std.specs.declared.result.Result.{Result}
use Rattle.std.specs.declared.result.Result.TheVariants.{Ok, Err}
use Rattle.my_link.specs.Looks.{Looks}
use Rattle.my_value.specs.RowParts.{RowParts}
use Rattle.my_reading.specs.declared.call.Call.TheVariants as calls
use Rattle.my_reading.specs.declared.call.CallKind.TheVariants as kinds
use Rattle.my_reading.specs.declared.error.Error.{Error}
use Rattle.my_reading.specs.declared.error.Error.TheVariants as errors
use Rattle.my_reading.specs.Told.{closes_driver}
use Rattle.my_conn.specs.Conn.{ConnSeen, Standing}
use Rattle.my_conn.specs.Drives.{DoneIs, NextIs}
use Rattle.my_conn.specs.Streams.{StreamWaits}
use Rattle.my_conn.specs.declared.drive.NextAnswer.{NextAnswer}
use Rattle.my_rows.specs.Gathers.{SetIs}
use Rattle.my_rows.specs.Reads.{ItemIs}
use Rattle.my_rows.specs.declared.error.QueryError.{QueryError}
use Rattle.my_rows.specs.declared.error.QueryError.TheVariants.{Client, FromRow}

-- nothing more is sent or read at it
abbrev pub is_closed : {L : Type 0} → ConnSeen L → Bool
is_closed c = c.lost || c.seen.closed

-- Which errors close a connection that is connected: not those of the server, nor those that a call is refused with.
abbrev pub closes : Error → Bool
closes (errors.Driver e) = closes_driver e
closes (errors.Io e) = true
closes (errors.Server e) = false
closes (errors.Url e) = true
closes (errors.Other e) = true
closes errors.NoMemory = true

abbrev pub closes_in : {A : Type 0} → Result A Error → Bool
closes_in (Ok value) = false
closes_in (Err error) = closes error

-- No call is open at it.
abbrev pub RestsAt : {L : Type 0} → ConnSeen L → Type 0
RestsAt c = Standing c.lost c.seen c.tape c.pending × (c.pending ≡ None)

-- It is closed exactly where it was before, or where the call failed with an error that closes. Then no call is open.
abbrev pub ClosesBy : {L A : Type 0} → ConnSeen L → ConnSeen L → Result A Error → Type 0
ClosesBy old new result = (is_closed new ≡ closes_in result || is_closed old) × RestsAt new

-- The same of a call that converts rows: a row that doesn't convert closes nothing, nor does memory that runs out beside
-- the calls of the connection.
abbrev pub CloseQuery : {L A : Type 0} → ConnSeen L → ConnSeen L → Result A QueryError → Type 0
CloseQuery old new (Ok value) = is_closed new ≡ is_closed old
CloseQuery old new (Err (FromRow row)) = is_closed new ≡ is_closed old
CloseQuery old new (Err (Client error)) = (is_closed new ≡ closes error || is_closed old)
    ⊎ ((error ≡ errors.NoMemory) × (is_closed new ≡ is_closed old))

abbrev pub NextCloses : {L : Type 0} → (L → Looks) → Type 0
NextCloses {L} look = (old new : ConnSeen L) (result : Result NextAnswer Error) → RestsAt old → NextIs look old new result
    → ClosesBy old new result

abbrev pub DropCloses : {L : Type 0} → (L → Looks) → Type 0
DropCloses {L} look = (old new : ConnSeen L) (result : Result (Unit {0}) Error) → RestsAt old
    → DoneIs look kinds.DropResult calls.DropResult old new result → ClosesBy old new result

abbrev pub StreamCloses : {L : Type 0} → (L → Looks) → Type 0
StreamCloses {L} look = (old new : ConnSeen L) (result : Result Bool Error) → RestsAt old → StreamWaits look old new result
    → ClosesBy old new result

abbrev pub ItemCloses : {L T : Type 0} → (L → Looks) → (RowParts → Type 0) → (RowParts → T → Type 0) → Type 0
ItemCloses {L} {T} look converts becomes = (old new : ConnSeen L) (result : Result (Option T) QueryError) → RestsAt old
    → ItemIs look converts becomes old new result → CloseQuery old new result

abbrev pub SetCloses : {L T G : Type 0} → (L → Looks) → (RowParts → Type 0) → (RowParts → T → Type 0)
    → (G → T → G → Type 0) → Type 0
SetCloses {L} {T} {G} look converts becomes takes = (old new : ConnSeen L) (start : G) (result : Result G QueryError)
    → RestsAt old → SetIs look converts becomes takes start old new result → CloseQuery old new result
