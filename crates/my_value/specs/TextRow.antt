-- A row of the text protocol.
-- MySQL internals, "Text Resultset": Text Resultset Row, ProtocolText::ResultsetRow.
use Rattle.std.specs.Prelude.{◌≡◌, ℕ, zero, suc, List, [], ◌∷◌, length, Option, Some, None, ◌==◌, if◌then◌else◌}
use Rattle.my_frame.specs.Numbers.{IsText, text_at, ◌>>=◌}
use Rattle.my_value.specs.declared.value.Value.{Value}
use Rattle.my_value.specs.declared.value.Value.TheVariants.{NULL, Bytes}

-- The bytes begin with the cell: NULL is one byte 0xFB, and a text follows its length.
abbrev pub IsTextCell : List ℕ → Value → List ℕ → Type 0
IsTextCell bytes NULL rest = bytes ≡ 0xFB ∷ rest
IsTextCell bytes (Bytes text) rest = IsText bytes text rest
IsTextCell bytes v rest = ⊥

-- The bytes are the cells, one after the other, and nothing else.
abbrev pub AreTextCells : List Value → List ℕ → Type 0
AreTextCells [] bytes = bytes ≡ []
AreTextCells (v ∷ vs) bytes = (rest : List ℕ) × IsTextCell bytes v rest × AreTextCells vs rest

-- The payload, which isn't empty, is a row of `count` cells.
pub record IsTextRow (count : ℕ) (payload : List ℕ) (cells : List Value) : Type 0 where
  pub count_is : length cells ≡ count
  pub stands : AreTextCells cells payload
  pub is_there : payload ≡ [] → ⊥

-- the text at the front as a value, and the bytes after it
abbrev pub text_value_at : List ℕ → Option (Value × List ℕ)
text_value_at bytes = text_at bytes >>= λ x. Some (Bytes x.0, x.1)

-- the cell at the front, and the bytes after it
abbrev pub text_cell_at : List ℕ → Option (Value × List ℕ)
text_cell_at [] = None
text_cell_at (head ∷ bytes) = if head == 0xFB then Some (NULL, bytes) else text_value_at (head ∷ bytes)

-- the first `count` cells, and the bytes after them
abbrev pub text_cells_at : ℕ → List ℕ → Option (List Value × List ℕ)
text_cells_at zero bytes = Some ([], bytes)
text_cells_at (suc count) bytes = text_cell_at bytes >>= λ x. (text_cells_at count x.1 >>= λ y. Some (x.0 ∷ y.0, y.1))

-- the bytes after what was read
abbrev pub following : Option (List Value × List ℕ) → Option (List ℕ)
following None = None
following (Some x) = Some x.1

-- what was read, where nothing is left after it
abbrev pub whole : {X : Type 0} → X → List ℕ → Option X
whole x [] = Some x
whole x (b ∷ bytes) = None

-- the cells of a row, which is all of the payload
abbrev pub text_row_at : ℕ → List ℕ → Option (List Value)
text_row_at count [] = None
text_row_at count (b ∷ bytes) = text_cells_at count (b ∷ bytes) >>= λ x. whole x.0 x.1
