-- What the calls that give rows do: each begins an answer so, reads its first set, and drops the rest.
use Rattle.std.specs.Prelude.{◌≡◌, List, [], Vec}
use Rattle.std.specs.declared.result.Result.{Result}
use Rattle.std.specs.declared.result.Result.TheVariants.{Ok, Err}
use Rattle.my_link.specs.Looks.{Looks}
use Rattle.my_value.specs.RowParts.{RowParts}
use Rattle.my_reading.specs.declared.error.Error.{Error}
use Rattle.my_conn.specs.Conn.{ConnSeen}
use Rattle.my_rows.specs.Answers.{AnswerIs, ReadIs}
use Rattle.my_rows.specs.Gathers.{Collects, Folds, Maps, SetIs}
use Rattle.my_rows.specs.declared.error.QueryError.{QueryError}
use Rattle.my_rows.specs.declared.gather.Collected.{Collected}
use Rattle.my_rows.specs.declared.gather.Folded.{Folded}
use Rattle.my_rows.specs.declared.gather.Mapped.{Mapped}

-- a part of the value
abbrev pub part_in : {A B : Type 0} → (A → B) → Result A QueryError → Result B QueryError
part_in part (Ok value) = Ok (part value)
part_in part (Err error) = Err error

-- The list that was gathered, or the same error.
abbrev pub IsListIn : {G T A : Type 0} → (G → List T) → Result G QueryError → Result (Vec T A) QueryError → Type 0
IsListIn list (Ok gathered) (Ok items) = items.items ≡ list gathered
IsListIn list (Ok gathered) (Err error) = ⊥
IsListIn list (Err error) (Ok items) = ⊥
IsListIn list (Err error) (Err same) = same ≡ error

-- Of a fold of the function from this value this was read, and the value is what it led to.
abbrev pub FoldedBy : {U F : Type 0} → U → F → (Folded U F → Result (Folded U F) QueryError → Type 0)
    → Result U QueryError → Type 0
FoldedBy {U} {F} init f reads result = (r : Result (Folded U F) QueryError)
    × (result ≡ part_in (λ (folded : Folded U F). folded.value) r) × reads (record { value = init; f = f }) r

-- From an empty list this was read, and the values are the list that it led to.
abbrev pub CollectedBy : {T A : Type 0} → (Collected T → Result (Collected T) QueryError → Type 0)
    → Result (Vec T A) QueryError → Type 0
CollectedBy {T} reads result = (none : Collected T) × (none.items.items ≡ [])
    × (r : Result (Collected T) QueryError) × IsListIn (λ (collected : Collected T). collected.items.items) r result
    × reads none r

-- From an empty list and this function this was read, and the values are the list that it led to.
abbrev pub MappedBy : {U F A : Type 0} → F → (Mapped U F → Result (Mapped U F) QueryError → Type 0)
    → Result (Vec U A) QueryError → Type 0
MappedBy {U} {F} f reads result = (none : Mapped U F) × (none.items.items ≡ []) × (none.f ≡ f)
    × (r : Result (Mapped U F) QueryError) × IsListIn (λ (mapped : Mapped U F). mapped.items.items) r result
    × reads none r

-- The value is the fold of the function over what the rows of the first set became, in order, from this value.
abbrev pub FoldsFirst : {L T U F : Type 0} → (L → Looks) → (ConnSeen L → ConnSeen L → Result (Unit {0}) Error → Type 0)
    → (RowParts → Type 0) → (RowParts → T → Type 0) → (F → U → T → U → F → Type 0) → U → F
    → ConnSeen L → ConnSeen L → Result U QueryError → Type 0
FoldsFirst look begins converts becomes step init f old new result =
    FoldedBy init f (λ start r. AnswerIs look begins (SetIs look converts becomes (Folds step) start) old new r) result

-- The values are what the rows of the first set became: all of them, in order.
abbrev pub CollectsFirst : {L T A : Type 0} → (L → Looks) → (ConnSeen L → ConnSeen L → Result (Unit {0}) Error → Type 0)
    → (RowParts → Type 0) → (RowParts → T → Type 0) → ConnSeen L → ConnSeen L → Result (Vec T A) QueryError → Type 0
CollectsFirst look begins converts becomes old new result =
    CollectedBy (λ none r. AnswerIs look begins (SetIs look converts becomes Collects none) old new r) result

-- The values are what the function returned of what the rows of the first set became: of all of them, in order.
abbrev pub MapsFirst : {L T U F A : Type 0} → (L → Looks) → (ConnSeen L → ConnSeen L → Result (Unit {0}) Error → Type 0)
    → (RowParts → Type 0) → (RowParts → T → Type 0) → (F → T → U → F → Type 0) → F
    → ConnSeen L → ConnSeen L → Result (Vec U A) QueryError → Type 0
MapsFirst look begins converts becomes step f old new result =
    MappedBy f (λ none r. AnswerIs look begins (SetIs look converts becomes (Maps step) none) old new r) result

-- Of an answer that a call began so, the value is the fold of the function over what the rows of the first set
-- became, in order.
abbrev pub FoldsBegun : {L T U F : Type 0} → (L → Looks) → (RowParts → Type 0) → (RowParts → T → Type 0)
    → (F → U → T → U → F → Type 0)
    → U → F → Result (Unit {0}) Error → ConnSeen L → ConnSeen L → Result U QueryError → Type 0
FoldsBegun look converts becomes step init f begun old new result =
    FoldedBy init f (λ start r. ReadIs look (SetIs look converts becomes (Folds step) start) begun old new r) result

-- Of an answer that a call began so, the values are what the rows of the first set became: all of them, in order.
abbrev pub CollectsBegun : {L T A : Type 0} → (L → Looks) → (RowParts → Type 0) → (RowParts → T → Type 0)
    → Result (Unit {0}) Error → ConnSeen L → ConnSeen L → Result (Vec T A) QueryError → Type 0
CollectsBegun look converts becomes begun old new result =
    CollectedBy (λ none r. ReadIs look (SetIs look converts becomes Collects none) begun old new r) result

-- Of an answer that a call began so, the values are what the function returned of what the rows of the first set
-- became, in order.
abbrev pub MapsBegun : {L T U F A : Type 0} → (L → Looks) → (RowParts → Type 0) → (RowParts → T → Type 0)
    → (F → T → U → F → Type 0) → F → Result (Unit {0}) Error → ConnSeen L → ConnSeen L → Result (Vec U A) QueryError
    → Type 0
MapsBegun look converts becomes step f begun old new result =
    MappedBy f (λ none r. ReadIs look (SetIs look converts becomes (Maps step) none) begun old new r) result
