use Rattle.std.proofs.Common.{◌≡◌, drop}
use Rattle.my_value.specs.TextRow.{following}
use Rattle.my_value.specs.BinaryRow.{binary_cells_at}
use Rattle.my_value.proofs.binary_row.after_binary_cells.Given as goal

abbrev pub invariant-loop-place : goal.invariant-loop-place
invariant-loop-place l = following (binary_cells_at l.place l.bitmap (drop l.place l.columns) l.rest) ≡ following (binary_cells_at 0 l.bitmap l.columns l.bytes)
