use Rattle.std.proofs.Common.{◌≡◌, ◌++◌, drop}
use Rattle.my_script.specs.ValueText.{cells_text}
use Rattle.my_script.proofs.text.value.push_cells.Given as goal

abbrev pub invariant-loop-i : goal.invariant-loop-i
invariant-loop-i l = l.out.items ++ cells_text (drop l.i l.row.cells) ≡ l.fn.out.items ++ cells_text (drop l.from l.row.cells)
