use Rattle.std.proofs.Common.{◌≡◌, ◌++◌, take}
use Rattle.my_command.specs.Client.Statement.{row_bytes}
use Rattle.my_command.proofs.statement.put_cells.Given as goal

abbrev pub invariant-loop-cell : goal.invariant-loop-cell
invariant-loop-cell l = l.out.items ≡ l.fn.out.items ++ row_bytes (take l.cell-index l.cells)
