use Rattle.std.proofs.Common.{length}
use Rattle.my_packets.proofs.Writing.{WrittenSoFar}
use Rattle.my_packets.proofs.write.WritePacket.send_all.Given as goal

abbrev pub invariant-writes : goal.invariant-writes
invariant-writes g l = record {
  so : WrittenSoFar (g.L.Link.looks l.fn.link) (g.L.Link.looks l.link) l.fn.self l.self;
}

abbrev pub decreases-writes : goal.decreases-writes
decreases-writes g l = length l.self.owed
