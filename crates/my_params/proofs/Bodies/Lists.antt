-- How long a list is, and what the lists of a bulk execution are written as.
use Rattle.std.proofs.Common.{◌≡◌, ℕ, ◌+◌, List, [], ◌∷◌, ◌++◌, length, map, Option, refl, ap, ◌∙◌, arith, length-append}
use Rattle.std.proofs.lemmas.List.Sums.{sum_by-cons}
use Rattle.std.proofs.lemmas.List.Folds.{flat_map-map}
use Rattle.std.specs.List.{flat_map}
use Rattle.my_frame.specs.Writing.{le_bytes}
use Rattle.my_frame.proofs.WritingLaws.{length-le_bytes}
use Rattle.my_command.specs.Client.Statement.{cell_bytes, row_bytes, rows_bytes}
use Rattle.my_value.specs.declared.value.Value.{Value}
use Rattle.my_value.specs.declared.value.Value.TheVariants.{NULL, Bytes, Int, UInt, FloatBits, DoubleBits, Date, Time}
use Rattle.my_params.specs.Sending.{value_bytes, values_len}
use Rattle.my_params.specs.Parameters.{cell_of}
use Rattle.my_params.specs.BulkBody.{list_bytes, row_of}

-- an indicator is one byte
length_marked : (n : ℕ) (v : Value) → length (le_bytes 1 n ++ value_bytes v) ≡ 1 + length (value_bytes v)
length_marked n v = length-append (le_bytes 1 n) (value_bytes v) ∙ ap (λ (k : ℕ). k + length (value_bytes v)) (length-le_bytes 1 n)

length_cell : (v : Value) → length (cell_bytes (cell_of v)) ≡ 1 + length (value_bytes v)
length_cell NULL = length-le_bytes 1 1
length_cell (Bytes text) = length_marked 0 (Bytes text)
length_cell (Int n) = length_marked 0 (Int n)
length_cell (UInt n) = length_marked 0 (UInt n)
length_cell (FloatBits bits) = length_marked 0 (FloatBits bits)
length_cell (DoubleBits bits) = length_marked 0 (DoubleBits bits)
length_cell (Date a b c d e f g) = length_marked 0 (Date a b c d e f g)
length_cell (Time a b c d e f) = length_marked 0 (Time a b c d e f)

pub length_list : (vs : List Value) → length (list_bytes vs) ≡ length vs + values_len vs
length_list [] = refl
length_list (v ∷ vs) =
    let e = length_cell v in
    let more = length_list vs in
    let s : values_len (v ∷ vs) ≡ length (value_bytes v) + values_len vs = sum_by-cons (λ (x : Value). length (value_bytes x)) v vs in
    let l : length (list_bytes (v ∷ vs)) ≡ length (cell_bytes (cell_of v)) + length (list_bytes vs) = length-append (cell_bytes (cell_of v)) (list_bytes vs) in
    omega arith

-- the cells of each row are those of a list
pub rows_are_lists : (rows : List (List (Option (List ℕ)))) (lists : List (List Value)) → rows ≡ map row_of lists → rows_bytes rows ≡ flat_map list_bytes lists
rows_are_lists rows lists same = ap rows_bytes same ∙ flat_map-map row_bytes row_of lists
