use Rattle.my_reply.specs.Column.{IsColumn, column_at}
use Rattle.my_frame.proofs.ReadingLaws.{finds_exactly}
use Rattle.my_reply.proofs.Readers.ColumnLaws.{column_found, column_again}
use Rattle.my_reply.proofs.laws.column_is_read.Goals as goal

pub returns : goal.returns
returns c = finds_exactly column_at IsColumn column_found column_again
