-- What the calls of a result do: each reads rows of a set.
use Rattle.std.specs.Prelude.{◌≡◌, [], Vec, Option, Some, None}
use Rattle.std.specs.declared.result.Result.{Result}
use Rattle.std.specs.declared.result.Result.TheVariants.{Ok, Err}
use Rattle.my_link.specs.Looks.{Looks}
use Rattle.my_value.specs.RowParts.{RowParts}
use Rattle.my_value.specs.declared.row_conversion.FromRowError.{FromRowError}
use Rattle.my_reading.specs.declared.error.Error.{Error}
use Rattle.my_conn.specs.Conn.{ConnSeen}
use Rattle.my_conn.specs.Drives.{NextIs}
use Rattle.my_conn.specs.declared.drive.NextAnswer.TheVariants.{Row}
use Rattle.my_rows.specs.Answers.{ReadIs}
use Rattle.my_rows.specs.Calls.{CollectedBy, FoldedBy, IsListIn, MappedBy, part_in}
use Rattle.my_rows.specs.Gathers.{Collects, Folds, Maps, SetIs}
use Rattle.my_rows.specs.Reads.{ReadsEnd}
use Rattle.my_rows.specs.declared.error.QueryError.{QueryError}
use Rattle.my_results.specs.Gathers.{Runs, Tries}
use Rattle.my_results.specs.declared.gather.Each.{Each}
use Rattle.my_results.specs.declared.gather.Tried.{Tried}

-- A row was read, or the end, or the read failed.
abbrev pub RowIs : {L : Type 0} → (L → Looks) → ConnSeen L → ConnSeen L → Result (Option RowParts) Error → Type 0
RowIs look old new (Ok (Some row)) = NextIs look old new (Ok (Row row))
RowIs look old new (Ok None) = ReadsEnd look old new
RowIs look old new (Err error) = NextIs look old new (Err error)

-- a row that isn't converted
abbrev pub any_row : RowParts → Type 0
any_row row = Unit {0}

abbrev pub same_row : RowParts → RowParts → Type 0
same_row row value = value ≡ row

-- The function was called with each row up to the end of the set, in order.
abbrev pub RunsSet : {L F : Type 0} → (L → Looks) → (F → RowParts → Unit {0} → F → Type 0) → F → ConnSeen L → ConnSeen L
    → Result (Unit {0}) QueryError → Type 0
RunsSet {L} {F} look step f old new result = (r : Result (Each F) QueryError)
    × (result ≡ part_in (λ (each : Each F). tt) r)
    × SetIs look any_row same_row (Runs step) (record { f = f }) old new r

-- The values are what the function returned of each row up to the end of the set, in order.
abbrev pub MapsSet : {L U F A : Type 0} → (L → Looks) → (F → RowParts → U → F → Type 0) → F → ConnSeen L → ConnSeen L
    → Result (Vec U A) QueryError → Type 0
MapsSet look step f old new result =
    MappedBy f (λ none r. SetIs look any_row same_row (Maps step) none old new r) result

-- The value is the fold of the function over what the rows up to the end of the set became, in order, from this value.
abbrev pub FoldsSet : {L T U F : Type 0} → (L → Looks) → (RowParts → Type 0) → (RowParts → T → Type 0)
    → (F → U → T → U → F → Type 0) → U → F → ConnSeen L → ConnSeen L → Result U QueryError → Type 0
FoldsSet look converts becomes step init f old new result =
    FoldedBy init f (λ start r. SetIs look converts becomes (Folds step) start old new r) result

-- The values are what the rows up to the end of the set became: all of them, in order.
abbrev pub CollectsSet : {L T A : Type 0} → (L → Looks) → (RowParts → Type 0) → (RowParts → T → Type 0) → ConnSeen L
    → ConnSeen L → Result (Vec T A) QueryError → Type 0
CollectsSet look converts becomes old new result =
    CollectedBy (λ none r. SetIs look converts becomes Collects none old new r) result

-- From an empty list this was read, and the values are the list that it led to.
abbrev pub TriedBy : {T A : Type 0} → (Tried T → Result (Tried T) QueryError → Type 0)
    → Result (Vec (Result T FromRowError) A) QueryError → Type 0
TriedBy {T} reads result = (none : Tried T) × (none.items.items ≡ [])
    × (r : Result (Tried T) QueryError) × IsListIn (λ (tried : Tried T). tried.items.items) r result × reads none r

-- The values are what the rows up to the end of the set became, or the rows that don't convert: all of them, in order.
abbrev pub TriesSet : {L T A : Type 0} → (L → Looks) → (RowParts → Type 0) → (RowParts → T → Type 0) → ConnSeen L
    → ConnSeen L → Result (Vec (Result T FromRowError) A) QueryError → Type 0
TriesSet look converts becomes old new result =
    TriedBy (λ none r. SetIs look any_row same_row (Tries converts becomes) none old new r) result

-- This was read, and the rest of the answer dropped; where reading failed, no call followed.
abbrev pub DropsAfter : {L A : Type 0} → (L → Looks) → (ConnSeen L → ConnSeen L → Result A QueryError → Type 0)
    → ConnSeen L → ConnSeen L → Result A QueryError → Type 0
DropsAfter look reads old new result = ReadIs look reads (Ok tt) old new result
