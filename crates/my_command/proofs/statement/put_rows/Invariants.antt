use Rattle.std.proofs.Common.{◌≡◌, ◌++◌, take}
use Rattle.my_command.specs.Client.Statement.{rows_bytes}
use Rattle.my_command.proofs.statement.put_rows.Given as goal

abbrev pub invariant-loop-row : goal.invariant-loop-row
invariant-loop-row l = l.out.items ≡ l.fn.out.items ++ rows_bytes (take l.row-index l.rows)
