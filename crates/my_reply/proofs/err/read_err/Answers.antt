use Rattle.my_reply.specs.ErrPacket.{IsErr, err_at}
use Rattle.my_frame.proofs.ReadingLaws.{reads_exactly}
use Rattle.my_reply.proofs.Readers.ErrLaws.{err_found, err_again}
use Rattle.my_reply.proofs.err.read_err.Goals as goal

pub returns-clause-exact : goal.returns-clause-exact
returns-clause-exact c =
    let before = c.args.before_response in
    let payload = c.args.payload.now in
    reads_exactly (IsErr before payload) (err_at before payload) _ (err_found before payload) (err_again before payload) c.err_of.ensures
