use Rattle.std.proofs.Common.{◌≡◌, ◌++◌, take}
use Rattle.my_command.specs.Client.Statement.{values_bytes}
use Rattle.my_command.proofs.statement.put_values.Given as goal

abbrev pub invariant-loop-parameter : goal.invariant-loop-parameter
invariant-loop-parameter l = l.out.items ≡ l.fn.out.items ++ values_bytes (take l.parameter-index l.parameters)
