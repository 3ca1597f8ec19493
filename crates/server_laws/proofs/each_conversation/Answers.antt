use Rattle.server_laws.proofs.Conversing.{heard}
use Rattle.server_laws.proofs.PayloadKinds.{PacketLaws}
use Rattle.server_laws.proofs.each_conversation.Goals as goal

pub returns : goal.returns
returns c =
    let w = c.written_packets_are_read.ensures in
    let laws : PacketLaws = record { greeting = w.greeting; ok = w.ok; end_ok = w.end_ok; err = w.err; count = w.count; column = w.column } in
    λ s h login limit st typed client. heard laws login limit s h st typed client
