use Rattle.std.proofs.Common.{◌≡◌, ◌-◌}
use Rattle.my_value.specs.TextRow.{text_cells_at}
use Rattle.my_value.proofs.Rows.{with_front}
use Rattle.my_value.proofs.text_row.text_cells.Given as goal

abbrev pub invariant-loop : goal.invariant-loop
invariant-loop l = with_front l.values.items (text_cells_at (l.count - l.counter) l.rest) ≡ text_cells_at l.count l.bytes
