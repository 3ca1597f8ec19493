use Rattle.std.proofs.Common.{◌≡◌, ◌++◌, take}
use Rattle.my_command.specs.Client.Replica.{intervals_bytes}
use Rattle.my_command.proofs.replica.put_intervals.Given as goal

abbrev pub invariant-loop-interval : goal.invariant-loop-interval
invariant-loop-interval l = l.out.items ≡ l.fn.out.items ++ intervals_bytes (take l.interval-index l.intervals)
