-- What is gathered of the rows of a set, where they are passed to a function, or may not convert.
use Rattle.std.specs.Prelude.{◌≡◌, ◌++◌, [], ◌∷◌}
use Rattle.std.specs.declared.result.Result.{Result}
use Rattle.std.specs.declared.result.Result.TheVariants.{Ok, Err}
use Rattle.my_value.specs.RowParts.{RowParts}
use Rattle.my_value.specs.declared.row_conversion.FromRowError.{FromRowError}
use Rattle.my_value.specs.declared.row_conversion.FromRowError.TheVariants.{Row}
use Rattle.my_results.specs.declared.gather.Each.{Each}
use Rattle.my_results.specs.declared.gather.Tried.{Tried}

-- The function was called with the row.
abbrev pub Runs : {F : Type 0} → (F → RowParts → Unit {0} → F → Type 0) → Each F → RowParts → Each F → Type 0
Runs step old row new = step old.f row tt new.f

-- What the row became, or the row itself, which doesn't convert.
abbrev pub TriedIs : {T : Type 0} → (RowParts → Type 0) → (RowParts → T → Type 0) → RowParts → Result T FromRowError
    → Type 0
TriedIs converts becomes row (Ok item) = becomes row item
TriedIs converts becomes row (Err error) = (error ≡ Row row) × (converts row → ⊥)

-- What the row became, or the row itself, is the last of the list.
abbrev pub Tries : {T : Type 0} → (RowParts → Type 0) → (RowParts → T → Type 0) → Tried T → RowParts → Tried T → Type 0
Tries {T} converts becomes old row new = (made : Result T FromRowError) × TriedIs converts becomes row made
    × (new.items.items ≡ old.items.items ++ made ∷ [])
