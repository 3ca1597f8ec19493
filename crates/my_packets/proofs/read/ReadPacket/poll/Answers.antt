use Rattle.my_packets.proofs.Reading.{came_too}
use Rattle.my_packets.proofs.read.ReadPacket.poll.Goals as goal

pub reads-preserved : goal.reads-preserved
reads-preserved g c = record {
  so = came_too (g.L.Link.looks c.args.link.now) (g.L.Link.looks c.reads.link) (g.L.Link.looks c.receive.new.link)
      c.args.codec.now c.reads.codec c.take_payload.new.codec c.args.src.now.items c.reads.src.items
      c.take_payload.new.src.items c.receive.new.src.items c.reads.taken c.in-Bytes.n c.reads.invariant.so
      c.in_default.ensures c.in-Bytes.ensures;
}
