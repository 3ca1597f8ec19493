use Rattle.std.proofs.Common.{◌≡◌, drop}
use Rattle.my_value.specs.BinaryRow.{binary_cells_at}
use Rattle.my_value.proofs.Rows.{with_front}
use Rattle.my_value.proofs.binary_row.binary_cells.Given as goal

abbrev pub invariant-loop-place : goal.invariant-loop-place
invariant-loop-place l = with_front l.values.items (binary_cells_at l.place l.bitmap (drop l.place l.columns) l.rest) ≡ binary_cells_at 0 l.bitmap l.columns l.bytes
