use Rattle.std.proofs.Common.{◌-◌}
use Rattle.my_frame.specs.declared.limits.TheConstants.{MOST_TAKEN}
use Rattle.my_packets.proofs.Reading.{ReadSoFar}
use Rattle.my_packets.proofs.read.ReadPacket.poll.Given as goal

abbrev pub invariant-reads : goal.invariant-reads
invariant-reads g l = record {
  so : ReadSoFar (g.L.Link.looks l.fn.link) (g.L.Link.looks l.link) l.fn.codec l.codec l.fn.src.items l.src.items l.taken;
}

abbrev pub decreases-reads : goal.decreases-reads
decreases-reads g l = MOST_TAKEN - l.taken
