use Rattle.std.proofs.Common.{◌≡◌, ◌+◌, drop}
use Rattle.my_link.specs.MemDials.{dial_place}
use Rattle.my_link.proofs.mem_world.dials.place_of.Given as goal

abbrev pub invariant-loop-i : goal.invariant-loop-i
invariant-loop-i l = l.i + dial_place l.number (drop l.i l.dials) ≡ dial_place l.number l.dials
