use Rattle.my_reply.specs.OkPacket.{IsEndOk, end_ok_at}
use Rattle.my_frame.proofs.ReadingLaws.{reads_exactly}
use Rattle.my_reply.proofs.Readers.OkLaws.{end_ok_found, end_ok_again}
use Rattle.my_reply.proofs.ok.read_end_ok.Goals as goal

pub returns-clause-exact : goal.returns-clause-exact
returns-clause-exact c =
    let payload = c.args.payload.now in
    reads_exactly (IsEndOk payload) (end_ok_at payload) _ (end_ok_found payload) (end_ok_again payload) c.end_ok_of.ensures
