-- Packets of a set's rows. MySQL internals, "Text Resultset" and "Binary Protocol Resultset".
use Rattle.std.specs.Prelude.{ℕ, List, [], ◌∷◌, length, nat_lt, Bool, true, false, ◌==◌, ◌&&◌, Option, if◌then◌else◌}
use Rattle.my_flags.specs.declared.flags.CapabilityFlags.{CapabilityFlags}
use Rattle.my_flags.specs.Sets.{deprecates_eof}
use Rattle.my_frame.specs.declared.limits.TheConstants.{FULL_LENGTH}
use Rattle.my_reply.specs.declared.column.Column.{Column}
use Rattle.my_value.specs.declared.value.Value.{Value}
use Rattle.my_value.specs.TextRow.{text_row_at}
use Rattle.my_value.specs.BinaryRow.{binary_row_at}

-- the cells of a row of these columns, of the binary protocol or of text
abbrev pub cells_of : Bool → List Column → List ℕ → Option (List Value)
cells_of true columns p = binary_row_at columns p
cells_of false columns p = text_row_at (length columns) p

-- whether the payload begins with 0xFE
abbrev pub is_ending : List ℕ → Bool
is_ending [] = false
is_ending (b ∷ bytes) = b == 0xFE

-- what ends a set is shorter: an OK than a whole chunk, an EOF than 8 bytes
abbrev pub end_bound : CapabilityFlags → ℕ
end_bound capabilities = if deprecates_eof capabilities then FULL_LENGTH else 8

-- whether the payload, in the place of a row, ends the set
abbrev pub is_last : CapabilityFlags → List ℕ → Bool
is_last capabilities p = is_ending p && nat_lt (length p) (end_bound capabilities)
