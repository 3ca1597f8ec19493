use Rattle.std.proofs.Common.{◌≡◌, ◌*◌, ◌++◌, drop}
use Rattle.my_command.specs.Client.Statement.{null_bytes}
use Rattle.my_command.proofs.statement.put_bitmap.Given as goal

abbrev pub invariant-loop : goal.invariant-loop
invariant-loop l = (l.out.items ≡ l.fn.out.items ++ null_bytes l.heads l.counter) × (l.rest ≡ drop (8 * l.counter) l.heads)
