use Rattle.std.proofs.Common.{◌≡◌, ◌-◌}
use Rattle.my_value.specs.TextRow.{text_cells_at, following}
use Rattle.my_value.proofs.text_row.after_text_cells.Given as goal

abbrev pub invariant-loop : goal.invariant-loop
invariant-loop l = following (text_cells_at (l.count - l.counter) l.rest) ≡ following (text_cells_at l.count l.bytes)
