-- A row of the binary protocol.
-- MySQL internals, "Binary Protocol Resultset Row" and "NULL-Bitmap".
use Rattle.std.specs.Prelude.{◌≡◌, ℕ, ◌+◌, ◌/◌, ◌%◌, Bool, true, false, List, [], ◌∷◌, ◌++◌, length, slice_index, Option, Some, None, ◌==◌, if◌then◌else◌}
use Rattle.std.specs.Int.{bit_at}
use Rattle.my_frame.specs.Numbers.{bytes_at, ◌>>=◌}
use Rattle.my_reply.specs.declared.column.Column.{Column}
use Rattle.my_value.specs.declared.value.Value.{Value}
use Rattle.my_value.specs.declared.value.Value.TheVariants.{NULL}
use Rattle.my_value.specs.declared.form.CellForm.{CellForm}
use Rattle.my_value.specs.CellForm.{form_of_type, is_unsigned}
use Rattle.my_value.specs.BinaryCell.{IsBinaryCell, binary_cell_at}
use Rattle.my_value.specs.TextRow.{whole}

-- how many bytes the bitmap of `count` cells has: two bits before the cells' are free
abbrev pub bitmap_len : ℕ → ℕ
bitmap_len count = (count + 9) / 8

-- whether the cell at a place is NULL: its bit is two further on
abbrev pub is_null_at : List ℕ → ℕ → Bool
is_null_at bitmap place = bit_at (slice_index bitmap ((place + 2) / 8)) ((place + 2) % 8) == 1

-- The bytes begin with the cell of a column: with nothing where it is NULL by the bitmap, else by the column's type.
abbrev pub IsColumnCell : Bool → Column → List ℕ → Value → List ℕ → Type 0
IsColumnCell true column bytes v rest = (v ≡ NULL) × (bytes ≡ rest)
IsColumnCell false column bytes v rest =
    (form : CellForm) × (form_of_type column.column_type ≡ Some form)
    × IsBinaryCell form (is_unsigned column.flags) bytes v rest

-- The bytes are the cells of the columns from a place on, one after the other, and nothing else.
abbrev pub AreBinaryCells : ℕ → List ℕ → List Column → List Value → List ℕ → Type 0
AreBinaryCells place bitmap [] [] bytes = bytes ≡ []
AreBinaryCells place bitmap [] (v ∷ vs) bytes = ⊥
AreBinaryCells place bitmap (c ∷ cs) [] bytes = ⊥
AreBinaryCells place bitmap (c ∷ cs) (v ∷ vs) bytes =
    (rest : List ℕ) × IsColumnCell (is_null_at bitmap place) c bytes v rest
    × AreBinaryCells (place + 1) bitmap cs vs rest

-- The payload is a row of these columns: 0, the bitmap, and the cells that aren't NULL.
pub record IsBinaryRow (columns : List Column) (payload : List ℕ) (cells : List Value) : Type 0 where
  pub bitmap : List ℕ
  pub values : List ℕ
  pub spelled : payload ≡ 0 ∷ (bitmap ++ values)
  pub bitmap_is : length bitmap ≡ bitmap_len (length columns)
  pub stand : AreBinaryCells 0 bitmap columns cells values

-- the cell of a column, and the bytes after it
abbrev pub column_cell_at : Bool → ℕ → ℕ → List ℕ → Option (Value × List ℕ)
column_cell_at true column_type flags bytes = Some (NULL, bytes)
column_cell_at false column_type flags bytes =
    form_of_type column_type >>= λ form. binary_cell_at form (is_unsigned flags) bytes

-- the cells of the columns from a place on, and the bytes after them
abbrev pub binary_cells_at : ℕ → List ℕ → List Column → List ℕ → Option (List Value × List ℕ)
binary_cells_at place bitmap [] bytes = Some ([], bytes)
binary_cells_at place bitmap (c ∷ cs) bytes =
    column_cell_at (is_null_at bitmap place) c.column_type c.flags bytes >>= λ x.
    (binary_cells_at (place + 1) bitmap cs x.1 >>= λ y. Some (x.0 ∷ y.0, y.1))

-- the bitmap of `count` cells after the head, and the bytes after it
abbrev pub bitmap_at : ℕ → List ℕ → Option (List ℕ × List ℕ)
bitmap_at count [] = None
bitmap_at count (head ∷ bytes) = if head == 0 then bytes_at (bitmap_len count) bytes else None

-- the cells of a row, which is all of the payload
abbrev pub binary_row_at : List Column → List ℕ → Option (List Value)
binary_row_at columns payload =
    bitmap_at (length columns) payload >>= λ m. (binary_cells_at 0 m.0 columns m.1 >>= λ x. whole x.0 x.1)
