use Rattle.my_reply.specs.ColumnCount.{IsColumnCount, column_count_at}
use Rattle.my_frame.proofs.ReadingLaws.{reads_plainly}
use Rattle.my_reply.proofs.Readers.ColumnCountLaws.{column_count_found, column_count_again}
use Rattle.my_reply.proofs.column_count.read_column_count.Goals as goal

pub returns-clause-exact : goal.returns-clause-exact
returns-clause-exact c =
    let cached = c.args.cached in
    let payload = c.args.payload.now in
    reads_plainly (IsColumnCount cached payload) (column_count_at cached payload) _ _ (column_count_found cached payload) (column_count_again cached payload) c.column_count_of.ensures c.ok_or.ensures.value
