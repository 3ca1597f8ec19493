use Rattle.my_reply.specs.EofPacket.{IsEof, eof_at}
use Rattle.my_frame.proofs.ReadingLaws.{finds_exactly}
use Rattle.my_reply.proofs.Readers.EofLaws.{eof_found, eof_again}
use Rattle.my_reply.proofs.laws.eof_is_read.Goals as goal

pub returns : goal.returns
returns c = finds_exactly eof_at IsEof eof_found eof_again
