use Rattle.my_reply.specs.OkPacket.{IsOk, ok_at}
use Rattle.my_frame.proofs.ReadingLaws.{reads_exactly}
use Rattle.my_reply.proofs.Readers.OkLaws.{ok_found, ok_again}
use Rattle.my_reply.proofs.ok.read_ok.Goals as goal

pub returns-clause-exact : goal.returns-clause-exact
returns-clause-exact c =
    let payload = c.args.payload.now in
    reads_exactly (IsOk payload) (ok_at payload) _ (ok_found payload) (ok_again payload) c.ok_of.ensures
