use Rattle.my_reply.specs.ColumnCount.{IsColumnCount, column_count_at}
use Rattle.my_frame.proofs.ReadingLaws.{finds_exactly}
use Rattle.my_reply.proofs.Readers.ColumnCountLaws.{column_count_found, column_count_again}
use Rattle.my_reply.proofs.laws.column_count_is_read.Goals as goal

pub returns : goal.returns
returns c = λ cached. finds_exactly (column_count_at cached) (IsColumnCount cached) (column_count_found cached) (column_count_again cached)
