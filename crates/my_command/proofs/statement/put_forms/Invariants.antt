use Rattle.std.proofs.Common.{◌≡◌, ◌++◌, take}
use Rattle.std.specs.List.{flat_map}
use Rattle.my_command.specs.Client.Statement.{type_bytes}
use Rattle.my_command.proofs.statement.put_forms.Given as goal

abbrev pub invariant-loop-head : goal.invariant-loop-head
invariant-loop-head l = l.out.items ≡ l.fn.out.items ++ flat_map (λ h. type_bytes h.form) (take l.head-index l.heads)
