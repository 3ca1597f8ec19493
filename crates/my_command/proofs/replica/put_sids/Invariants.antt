use Rattle.std.proofs.Common.{◌≡◌, ◌++◌, take}
use Rattle.std.specs.List.{flat_map}
use Rattle.my_command.specs.Client.Replica.{sid_bytes}
use Rattle.my_command.proofs.replica.put_sids.Given as goal

abbrev pub invariant-loop-sid : goal.invariant-loop-sid
invariant-loop-sid l = l.out.items ≡ l.fn.out.items ++ flat_map sid_bytes (take l.sid-index l.sids)
