use Rattle.std.proofs.Common.{rules}
use Rattle.my_packets.proofs.Writing.{sent_too, failed}
use Rattle.my_packets.proofs.write.WritePacket.send_all.Goals as goal

pub writes-preserved : goal.writes-preserved
writes-preserved g c = record {
  so = sent_too (g.L.Link.looks c.args.link.now) (g.L.Link.looks c.writes.link) (g.L.Link.looks c.send.new.link)
      c.args.self.now c.writes.self c.send.new.self c.writes.invariant.so c.in-Some.ensures;
}

pub returns-in-Failed : goal.returns-in-Failed
returns-in-Failed g c = failed (g.L.Link.looks c.args.link.now) (g.L.Link.looks c.writes.link)
    (g.L.Link.looks c.send.new.link) c.args.self.now c.writes.self c.send.new.self c.in-Failed.error c.writes.invariant.so
    (search rules) c.in-Failed.ensures
