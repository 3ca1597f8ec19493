use Rattle.my_reply.specs.OkPacket.{IsEndOk, IsOk, end_ok_at, ok_at}
use Rattle.my_frame.proofs.ReadingLaws.{finds_exactly}
use Rattle.my_reply.proofs.Readers.OkLaws.{ok_found, ok_again, end_ok_found, end_ok_again}
use Rattle.my_reply.proofs.laws.ok_is_read.Goals as goal

pub returns-clause-ok : goal.returns-clause-ok
returns-clause-ok c = finds_exactly ok_at IsOk ok_found ok_again

pub returns-clause-end_ok : goal.returns-clause-end_ok
returns-clause-end_ok c = finds_exactly end_ok_at IsEndOk end_ok_found end_ok_again
