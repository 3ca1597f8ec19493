use Rattle.my_reply.specs.ErrPacket.{IsErr, err_at}
use Rattle.my_frame.proofs.ReadingLaws.{finds_exactly}
use Rattle.my_reply.proofs.Readers.ErrLaws.{err_found, err_again}
use Rattle.my_reply.proofs.laws.err_is_read.Goals as goal

pub returns : goal.returns
returns c = λ before. finds_exactly (err_at before) (IsErr before) (err_found before) (err_again before)
