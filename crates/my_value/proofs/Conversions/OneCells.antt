-- A row of one cell that is given back.
use Rattle.std.proofs.Common.{◌≡◌, List, [], ◌∷◌, length, Some, sym, ap, subst, ◌∙◌, arith}
use Rattle.my_value.specs.declared.value.Value.{Value}
use Rattle.my_value.specs.declared.value.Value.TheVariants.{NULL}
use Rattle.my_reply.specs.declared.column.Column.{Column}
use Rattle.std.specs.Prelude.{slice_get, slice_set}
use Rattle.my_value.specs.RowParts.{RowParts}
use Rattle.my_value.specs.RowConversions.{OneCell}

cells_back : (P : Value → Type 0) (cells taken put : List Value) (v w : Value) → length cells ≡ 1 → Some v ≡ slice_get cells 0 → w ≡ v → taken ≡ slice_set cells 0 NULL → put ≡ slice_set taken 0 w → (P v → ⊥) → (put ≡ cells) × (OneCell P cells → ⊥)
cells_back P [] taken put v w n is same t p refused = absurd (omega arith)
cells_back P (a ∷ []) taken put v w n is same t p refused =
    let e : a ≡ v = cc in
    (p ∙ ap (λ (x : List Value). slice_set x 0 w) t ∙ ap (λ (x : Value). x ∷ []) (same ∙ sym e), λ h. refused (subst P e h))
cells_back P (a ∷ b ∷ cells) taken put v w n is same t p refused = absurd (omega arith)

pub row_back : (P : Value → Type 0) (row taken put : RowParts) (v w : Value) → length row.cells ≡ 1 → Some v ≡ slice_get row.cells 0 → w ≡ v → taken.cells ≡ slice_set row.cells 0 NULL → taken.columns ≡ row.columns → put.cells ≡ slice_set taken.cells 0 w → put.columns ≡ taken.columns → (P v → ⊥) → (put ≡ row) × (OneCell P row.cells → ⊥)
row_back P row taken put v w n is same t tc p pc refused =
    let b = cells_back P row.cells taken.cells put.cells v w n is same t p refused in
    (ap (λ (x : List Value). record { cells = x; columns = put.columns }) b.0 ∙ ap (λ (x : List Column). record { cells = row.cells; columns = x }) (pc ∙ tc), b.1)
