use Rattle.my_reply.specs.EofPacket.{IsEof, eof_at}
use Rattle.my_frame.proofs.ReadingLaws.{reads_plainly}
use Rattle.my_reply.proofs.Readers.EofLaws.{eof_found, eof_again}
use Rattle.my_reply.proofs.eof.read_eof.Goals as goal

pub returns-clause-exact : goal.returns-clause-exact
returns-clause-exact c =
    let payload = c.args.payload.now in
    reads_plainly (IsEof payload) (eof_at payload) _ _ (eof_found payload) (eof_again payload) c.eof_of.ensures c.ok_or.ensures.value
