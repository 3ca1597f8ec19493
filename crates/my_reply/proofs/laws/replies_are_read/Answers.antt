use Rattle.my_reply.specs.Replies.{IsInfile, IsPrepareOk, infile_at, prepare_ok_at}
use Rattle.my_frame.proofs.ReadingLaws.{finds_exactly}
use Rattle.my_reply.proofs.Readers.ReplyLaws.{infile_found, infile_again, prepare_ok_found, prepare_ok_again}
use Rattle.my_reply.proofs.laws.replies_are_read.Goals as goal

pub returns-clause-prepare_ok : goal.returns-clause-prepare_ok
returns-clause-prepare_ok c = finds_exactly prepare_ok_at IsPrepareOk prepare_ok_found prepare_ok_again

pub returns-clause-infile : goal.returns-clause-infile
returns-clause-infile c = finds_exactly infile_at IsInfile infile_found infile_again
