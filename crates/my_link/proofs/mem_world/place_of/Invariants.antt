use Rattle.std.proofs.Common.{◌≡◌, ◌+◌, drop}
use Rattle.my_link.specs.Planned.{place_at}
use Rattle.my_link.proofs.mem_world.place_of.Given as goal

abbrev pub invariant-loop-i : goal.invariant-loop-i
invariant-loop-i l = l.i + place_at l.number (drop l.i l.links) ≡ place_at l.number l.links
