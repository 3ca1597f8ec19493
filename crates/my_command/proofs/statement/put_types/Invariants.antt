use Rattle.std.proofs.Common.{◌≡◌, ◌++◌, take}
use Rattle.std.specs.List.{flat_map}
use Rattle.my_command.specs.Client.Statement.{type_bytes}
use Rattle.my_command.proofs.statement.put_types.Given as goal

abbrev pub invariant-loop-form : goal.invariant-loop-form
invariant-loop-form l = l.out.items ≡ l.fn.out.items ++ flat_map (type_bytes) (take l.form-index l.types)
