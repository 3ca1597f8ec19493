-- Values and rows as text.
use Rattle.std.specs.Prelude.{ℕ, List, [], ◌∷◌, ◌++◌, codes, length, if◌then◌else◌, Option, Some, None}
use Rattle.std.specs.Int.{to_be_bytes, w32, w64}
use Rattle.std.specs.Fmt.{decimal, signed_decimal}
use Rattle.hex.specs.Hex.{encode_lower}
use Rattle.my_value.specs.declared.value.Value.{Value}
use Rattle.my_value.specs.declared.value.Value.TheVariants.{NULL, Bytes, Int, UInt, FloatBits, DoubleBits, Date, Time}
use Rattle.my_value.specs.RowParts.{RowParts}
use Rattle.my_script.specs.TextParts.{marked, bytes_text}

-- `y-m-d`
unfoldable pub date_text : ℕ → ℕ → ℕ → List ℕ
date_text year month day = decimal year ++ marked 45 month ++ marked 45 day

-- `_h:m:s.u`, where `_` stands for a blank
unfoldable pub clock_text : ℕ → ℕ → ℕ → ℕ → List ℕ
clock_text hour minute second micros = marked 95 hour ++ marked 58 minute ++ marked 58 second ++ marked 46 micros

-- a letter and the digits of bits, the highest first
unfoldable pub bits_text : ℕ → List ℕ → List ℕ
bits_text letter bits = letter ∷ 58 ∷ encode_lower bits

abbrev pub value_text : Value → List ℕ
value_text NULL = codes "NULL"
value_text (Bytes bytes) = bytes_text bytes
value_text (Int n) = codes "i:" ++ signed_decimal n
value_text (UInt n) = codes "u:" ++ decimal n
value_text (FloatBits bits) = bits_text 102 (to_be_bytes w32 bits)
value_text (DoubleBits bits) = bits_text 100 (to_be_bytes w64 bits)
value_text (Date year month day hour minute second micros) = codes "D:" ++ date_text year month day ++ clock_text hour minute second micros
value_text (Time negative days hours minutes seconds micros) = codes "T:" ++ decimal (if negative then 1 else 0) ++ marked 95 days ++ clock_text hours minutes seconds micros

-- a blank and a value, where there is a cell
abbrev pub cell_text : Option Value → List ℕ
cell_text None = []
cell_text (Some value) = 32 ∷ value_text value

abbrev pub cells_text : List Value → List ℕ
cells_text [] = []
cells_text (value ∷ rest) = cell_text (Some value) ++ cells_text rest

-- values, a blank between them
abbrev pub joined_text : List Value → List ℕ
joined_text [] = []
joined_text (value ∷ rest) = value_text value ++ cells_text rest

-- ` [V V]`
unfoldable pub boxed_text : List Value → List ℕ
boxed_text cells = codes " [" ++ joined_text cells ++ 93 ∷ []

abbrev pub boxes_text : List RowParts → List ℕ
boxes_text [] = []
boxes_text (row ∷ rest) = boxed_text row.cells ++ boxes_text rest

-- `rows N [V V] [V V]`
unfoldable pub rows_text : List RowParts → List ℕ
rows_text rows = codes "rows " ++ decimal (length rows) ++ boxes_text rows

abbrev pub row_text : List Value → List ℕ
row_text cells = codes "row" ++ cells_text cells
