use Rattle.std.proofs.Common.{◌≡◌, ◌++◌, take}
use Rattle.std.specs.List.{flat_map}
use Rattle.my_command.specs.Client.Statement.{written_value}
use Rattle.my_params.specs.Parameters.{sent_value}
use Rattle.my_params.proofs.execute.put_values.Given as goal

abbrev pub invariant-loop-value : goal.invariant-loop-value
invariant-loop-value l = l.out.items ≡ l.fn.out.items ++ flat_map (λ v. written_value (sent_value l.ahead v)) (take l.value-index l.values)
