use Rattle.my_reply.specs.Replies.{IsPrepareOk, prepare_ok_at}
use Rattle.my_frame.proofs.ReadingLaws.{reads_plainly}
use Rattle.my_reply.proofs.Readers.ReplyLaws.{prepare_ok_found, prepare_ok_again}
use Rattle.my_reply.proofs.replies.read_prepare_ok.Goals as goal

pub returns-clause-exact : goal.returns-clause-exact
returns-clause-exact c =
    let payload = c.args.payload.now in
    reads_plainly (IsPrepareOk payload) (prepare_ok_at payload) _ _ (prepare_ok_found payload) (prepare_ok_again payload) c.prepare_ok_of.ensures c.ok_or.ensures.value
