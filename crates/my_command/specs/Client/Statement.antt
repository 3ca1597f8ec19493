-- How the packets are written that execute a statement.
-- MySQL internals, "Prepared Statements": COM_STMT_EXECUTE; MariaDB, "Binary Protocol": COM_STMT_BULK_EXECUTE.
use Rattle.std.specs.Prelude.{ℕ, zero, suc, ◌+◌, ◌*◌, ◌/◌, Bool, true, false, List, [], ◌++◌, length, drop, map, slice_get, Option, Some, None, is_none, ◌==◌, if◌then◌else◌}
use Rattle.std.specs.List.{flat_map}
use Rattle.my_frame.specs.Writing.{le_bytes}
use Rattle.my_command.specs.declared.statement.ParameterType.{ParameterType}
use Rattle.my_command.specs.declared.statement.Parameter.{Parameter}
use Rattle.my_command.specs.declared.statement.ParameterHead.{ParameterHead}
use Rattle.my_command.specs.declared.statement.BulkExecute.{BulkExecute}

-- what is sent of a parameter before all values
abbrev pub head_of : Parameter → ParameterHead
head_of p = record { form = p.form; is_null = is_none p.value }

-- 1 where there is a parameter and it is NULL
abbrev pub null_bit : Option ParameterHead → ℕ
null_bit None = 0
null_bit (Some h) = if h.is_null then 1 else 0

-- the bit of the parameter at a place
abbrev pub bit_of : List ParameterHead → ℕ → ℕ
bit_of hs place = null_bit (slice_get hs place)

-- the bits of the first eight parameters, the first one's lowest
abbrev pub null_byte : List ParameterHead → ℕ
null_byte hs =
    (bit_of hs 0 + 2 * bit_of hs 1 + 4 * bit_of hs 2 + 8 * bit_of hs 3)
    + 16 * (bit_of hs 4 + 2 * bit_of hs 5 + 4 * bit_of hs 6 + 8 * bit_of hs 7)

-- the first `k` bytes of the bitmap, each with the bits of eight parameters
abbrev pub null_bytes : List ParameterHead → ℕ → List ℕ
null_bytes hs zero = []
null_bytes hs (suc k) = null_bytes hs k ++ le_bytes 1 (null_byte (drop (8 * k) hs))

-- a bit for each parameter
unfoldable pub null_bitmap : List ParameterHead → List ℕ
null_bitmap hs = null_bytes hs ((length hs + 7) / 8)

abbrev pub type_bytes : ParameterType → List ℕ
type_bytes form = le_bytes 1 form.kind ++ le_bytes 1 form.flag

-- where there are parameters: which are NULL, a 1, and their types
abbrev pub heads_bytes : List ParameterHead → List ℕ
heads_bytes hs =
    if length hs == 0 then [] else null_bitmap hs ++ le_bytes 1 1 ++ flat_map (λ h. type_bytes h.form) hs

-- the payload up to the values: without a cursor, once
abbrev pub execute_head : ℕ → List ParameterHead → List ℕ
execute_head statement hs =
    le_bytes 1 0x17 ++ le_bytes 4 statement ++ le_bytes 1 0 ++ le_bytes 4 1 ++ heads_bytes hs

-- a value as it is written, nothing for NULL
abbrev pub written_value : Option (List ℕ) → List ℕ
written_value None = []
written_value (Some bytes) = bytes

-- the values of all parameters
abbrev pub values_bytes : List Parameter → List ℕ
values_bytes ps = flat_map (λ p. written_value p.value) ps

-- Executes a statement once.
abbrev pub execute_bytes : ℕ → List Parameter → List ℕ
execute_bytes statement ps = execute_head statement (map head_of ps) ++ values_bytes ps

-- the byte before the value of a row
abbrev pub indicator_bytes : Bool → List ℕ
indicator_bytes is_null = le_bytes 1 (if is_null then 1 else 0)

-- a value of a row: its indicator, and the value where it isn't NULL
abbrev pub cell_bytes : Option (List ℕ) → List ℕ
cell_bytes None = indicator_bytes true
cell_bytes (Some bytes) = indicator_bytes false ++ bytes

abbrev pub row_bytes : List (Option (List ℕ)) → List ℕ
row_bytes cells = flat_map cell_bytes cells

abbrev pub rows_bytes : List (List (Option (List ℕ))) → List ℕ
rows_bytes rows = flat_map row_bytes rows

-- the payload up to the rows; types are sent
abbrev pub bulk_head : ℕ → List ParameterType → List ℕ
bulk_head statement types =
    le_bytes 1 0xFA ++ le_bytes 4 statement ++ le_bytes 2 0x80 ++ flat_map type_bytes types

-- Executes a statement once for each row.
abbrev pub bulk_bytes : BulkExecute → List ℕ
bulk_bytes bulk = bulk_head bulk.statement bulk.types ++ rows_bytes bulk.rows
