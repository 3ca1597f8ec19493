-- A cell of a binary row.
-- MySQL internals, "Binary Protocol Value": the encodings by column type.
use Rattle.std.specs.Prelude.{◌≡◌, ℕ, ◌+◌, Bool, ◌||◌, ◌&&◌, pos, List, [], ◌∷◌, ◌++◌, length, slice_index, Option, Some, None, ◌==◌, nat_le, if◌then◌else◌}
use Rattle.std.specs.Int.{Width, w8, w16, w32, w64, cast_signed}
use Rattle.my_frame.specs.Numbers.{IsNumber, IsText, le_value, number_at, bytes_at, ◌>>=◌}
use Rattle.my_value.specs.TextRow.{text_value_at}
use Rattle.my_value.specs.declared.value.Value.{Value}
use Rattle.my_value.specs.declared.value.Value.TheVariants as values
use Rattle.my_value.specs.declared.form.CellForm.{CellForm}
use Rattle.my_value.specs.declared.form.CellForm.TheVariants.{Tiny, Short, Long, LongLong, Float, Double, Date, Time, Null, Text}

-- a whole number of at most four bytes: in two's complement, unless it has no sign
abbrev pub integer : Width → Bool → ℕ → Value
integer w unsigned n = values.Int (if unsigned then pos n else cast_signed w n)

-- a whole number of eight bytes
abbrev pub long_integer : Bool → ℕ → Value
long_integer unsigned n = if unsigned then values.UInt n else values.Int (cast_signed w64 n)

-- the number of four bytes from a place on
abbrev pub micros_at : List ℕ → ℕ → ℕ
micros_at parts k =
    le_value (slice_index parts k ∷ slice_index parts (k + 1) ∷ slice_index parts (k + 2)
    ∷ slice_index parts (k + 3) ∷ [])

-- Year, month and day, then hour, minute and second, then microseconds may be there; what is missing is 0.
abbrev pub date_of : List ℕ → Option Value
date_of parts =
    if ((length parts == 0) || (length parts == 4)) || ((length parts == 7) || (length parts == 11))
    then Some (values.Date (le_value (slice_index parts 0 ∷ slice_index parts 1 ∷ [])) (slice_index parts 2)
    (slice_index parts 3) (slice_index parts 4) (slice_index parts 5) (slice_index parts 6) (micros_at parts 7))
    else None

-- A sign, days, hour, minute and second, then microseconds may be there; what is missing is 0, and a sign is 0 or 1.
abbrev pub time_of : List ℕ → Option Value
time_of parts =
    if ((length parts == 0) || ((length parts == 8) || (length parts == 12))) && nat_le (slice_index parts 0) 1
    then Some (values.Time (slice_index parts 0 == 1) (micros_at parts 1) (slice_index parts 5) (slice_index parts 6)
    (slice_index parts 7) (micros_at parts 8))
    else None

-- The bytes begin with the parts of a value after their length in one byte.
abbrev pub IsSized : (List ℕ → Option Value) → List ℕ → Value → List ℕ → Type 0
IsSized value_of bytes v rest = (parts : List ℕ) × (bytes ≡ length parts ∷ (parts ++ rest)) × (value_of parts ≡ Some v)

-- The bytes begin with the cell, spelled in this form.
abbrev pub IsBinaryCell : CellForm → Bool → List ℕ → Value → List ℕ → Type 0
IsBinaryCell Tiny unsigned bytes v rest = (n : ℕ) × IsNumber 1 bytes n rest × (integer w8 unsigned n ≡ v)
IsBinaryCell Short unsigned bytes v rest = (n : ℕ) × IsNumber 2 bytes n rest × (integer w16 unsigned n ≡ v)
IsBinaryCell Long unsigned bytes v rest = (n : ℕ) × IsNumber 4 bytes n rest × (integer w32 unsigned n ≡ v)
IsBinaryCell LongLong unsigned bytes v rest = (n : ℕ) × IsNumber 8 bytes n rest × (long_integer unsigned n ≡ v)
IsBinaryCell Float unsigned bytes v rest = (n : ℕ) × IsNumber 4 bytes n rest × (values.FloatBits n ≡ v)
IsBinaryCell Double unsigned bytes v rest = (n : ℕ) × IsNumber 8 bytes n rest × (values.DoubleBits n ≡ v)
IsBinaryCell Date unsigned bytes v rest = IsSized date_of bytes v rest
IsBinaryCell Time unsigned bytes v rest = IsSized time_of bytes v rest
IsBinaryCell Null unsigned bytes v rest = (v ≡ values.NULL) × (bytes ≡ rest)
IsBinaryCell Text unsigned bytes v rest = (text : List ℕ) × IsText bytes text rest × (values.Bytes text ≡ v)

-- the parts after their length, and the bytes after them
abbrev pub parts_at : List ℕ → Option (List ℕ × List ℕ)
parts_at [] = None
parts_at (len ∷ bytes) = bytes_at len bytes

-- the parts as a value, and the bytes after them
abbrev pub sized_at : (List ℕ → Option Value) → List ℕ → Option (Value × List ℕ)
sized_at value_of bytes = parts_at bytes >>= λ x. (value_of x.0 >>= λ v. Some (v, x.1))

-- the number in `count` bytes, as a value, and the bytes after it
abbrev pub numeric_at : (ℕ → Value) → ℕ → List ℕ → Option (Value × List ℕ)
numeric_at value_of count bytes = number_at count bytes >>= λ x. Some (value_of x.0, x.1)

-- the cell in this form, and the bytes after it
abbrev pub binary_cell_at : CellForm → Bool → List ℕ → Option (Value × List ℕ)
binary_cell_at Tiny unsigned bytes = numeric_at (integer w8 unsigned) 1 bytes
binary_cell_at Short unsigned bytes = numeric_at (integer w16 unsigned) 2 bytes
binary_cell_at Long unsigned bytes = numeric_at (integer w32 unsigned) 4 bytes
binary_cell_at LongLong unsigned bytes = numeric_at (long_integer unsigned) 8 bytes
binary_cell_at Float unsigned bytes = numeric_at values.FloatBits 4 bytes
binary_cell_at Double unsigned bytes = numeric_at values.DoubleBits 8 bytes
binary_cell_at Date unsigned bytes = sized_at date_of bytes
binary_cell_at Time unsigned bytes = sized_at time_of bytes
binary_cell_at Null unsigned bytes = Some (values.NULL, bytes)
binary_cell_at Text unsigned bytes = text_value_at bytes
