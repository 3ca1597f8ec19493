-- What a row converts to.
use Rattle.std.specs.Prelude.{◌≡◌, List, [], ◌∷◌, ⊤}
use Rattle.my_value.specs.declared.value.Value.{Value}
use Rattle.my_value.specs.RowParts.{RowParts}
use Rattle.my_value.specs.declared.row_conversion.FromRowError.{FromRowError}
use Rattle.my_value.specs.declared.row_conversion.FromRowError.TheVariants as errors

-- There is exactly one cell, and P holds of it; likewise for two, three and four.
abbrev pub OneCell : (Value → Type 0) → List Value → Type 0
OneCell P (a ∷ []) = P a
OneCell P cells = ⊥

abbrev pub TwoCells : (Value → Type 0) → (Value → Type 0) → List Value → Type 0
TwoCells P Q (a ∷ b ∷ []) = P a × Q b
TwoCells P Q cells = ⊥

abbrev pub ThreeCells : (Value → Type 0) → (Value → Type 0) → (Value → Type 0) → List Value → Type 0
ThreeCells P Q R (a ∷ b ∷ c ∷ []) = P a × Q b × R c
ThreeCells P Q R cells = ⊥

abbrev pub FourCells : (Value → Type 0) → (Value → Type 0) → (Value → Type 0) → (Value → Type 0) → List Value → Type 0
FourCells P Q R S (a ∷ b ∷ c ∷ d ∷ []) = P a × Q b × R c × S d
FourCells P Q R S cells = ⊥

-- The row that was passed in is given back exactly where it doesn't convert; out of memory may come at any time.
abbrev pub RefusesRow : Type 0 → RowParts → FromRowError → Type 0
RefusesRow converts row (errors.Row kept) = (kept ≡ row) × (converts → ⊥)
RefusesRow converts row errors.NoMemory = ⊤
