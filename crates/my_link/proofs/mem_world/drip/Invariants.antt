use Rattle.std.proofs.Common.{◌≡◌, ◌++◌, drop}
use Rattle.my_link.specs.Plan.{dripped}
use Rattle.my_link.proofs.mem_world.drip.Given as goal

abbrev pub invariant-loop-byte : goal.invariant-loop-byte
invariant-loop-byte l = l.items.items ++ dripped (drop l.byte-index l.bytes) ≡ dripped l.bytes
