use Rattle.server_laws.proofs.Greeted.{greeted}
use Rattle.server_laws.proofs.PayloadKinds.{PacketLaws}
use Rattle.server_laws.proofs.each_greeting.Goals as goal

pub returns : goal.returns
returns c =
    let w = c.written_packets_are_read.ensures in
    let laws : PacketLaws = record { greeting = w.greeting; ok = w.ok; end_ok = w.end_ok; err = w.err; count = w.count; column = w.column } in
    λ s h login talks st typed new. greeted laws login talks s h st typed new
