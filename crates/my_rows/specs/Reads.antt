-- What reads of rows return.
use Rattle.std.specs.Prelude.{◌≡◌, ◌⊎◌, List, [], ◌∷◌, Option, Some, None}
use Rattle.std.specs.declared.result.Result.{Result}
use Rattle.std.specs.declared.result.Result.TheVariants.{Ok, Err}
use Rattle.my_link.specs.Looks.{Looks}
use Rattle.my_value.specs.RowParts.{RowParts}
use Rattle.my_reading.specs.declared.error.Error.TheVariants as errors
use Rattle.my_conn.specs.Conn.{ConnSeen}
use Rattle.my_conn.specs.Drives.{NextIs}
use Rattle.my_conn.specs.declared.drive.NextAnswer.TheVariants.{Row, SetEnd, NoSet}
use Rattle.my_rows.specs.declared.error.QueryError.{QueryError}
use Rattle.my_rows.specs.declared.error.QueryError.TheVariants.{Client, FromRow}

-- These rows were read, the newest first: each is what a read of the next row returned.
abbrev pub ReadsRows : {L : Type 0} → (L → Looks) → ConnSeen L → List RowParts → ConnSeen L → Type 0
ReadsRows look old [] new = new ≡ old
ReadsRows {L} look old (r ∷ rs) new = (mid : ConnSeen L) × ReadsRows look old rs mid × NextIs look mid new (Ok (Row r))

-- A read returned that the set ended, or that nothing is left.
abbrev pub ReadsEnd : {L : Type 0} → (L → Looks) → ConnSeen L → ConnSeen L → Type 0
ReadsEnd look old new = NextIs look old new (Ok SetEnd) ⊎ NextIs look old new (Ok NoSet)

-- Rows were read, and then memory ran out.
abbrev pub ReadsInVain : {L : Type 0} → (L → Looks) → ConnSeen L → ConnSeen L → QueryError → Type 0
ReadsInVain look old new error = (error ≡ Client errors.NoMemory) × (rows : List RowParts) × ReadsRows look old rows new

-- Why a read gave no value: it failed, or memory ran out; or the row doesn't convert, and is given back.
abbrev pub ReadFails : {L : Type 0} → (L → Looks) → (RowParts → Type 0) → ConnSeen L → ConnSeen L → QueryError → Type 0
ReadFails look converts old new (Client error) = NextIs look old new (Err error) ⊎ ReadsInVain look old new (Client error)
ReadFails look converts old new (FromRow row) = NextIs look old new (Ok (Row row)) × (converts row → ⊥)

-- A row was read, and became this value; or the end was read.
abbrev pub ItemIs : {L T : Type 0} → (L → Looks) → (RowParts → Type 0) → (RowParts → T → Type 0) → ConnSeen L → ConnSeen L
    → Result (Option T) QueryError → Type 0
ItemIs look converts becomes old new (Ok (Some item)) = (row : RowParts) × NextIs look old new (Ok (Row row)) × becomes row item
ItemIs look converts becomes old new (Ok None) = ReadsEnd look old new
ItemIs look converts becomes old new (Err error) = ReadFails look converts old new error
