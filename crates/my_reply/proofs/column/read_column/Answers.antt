use Rattle.my_reply.specs.Column.{IsColumn, column_at}
use Rattle.my_frame.proofs.ReadingLaws.{reads_exactly}
use Rattle.my_reply.proofs.Readers.ColumnLaws.{column_found, column_again}
use Rattle.my_reply.proofs.column.read_column.Goals as goal

pub returns-clause-exact : goal.returns-clause-exact
returns-clause-exact c =
    let payload = c.args.payload.now in
    reads_exactly (IsColumn payload) (column_at payload) _ (column_found payload) (column_again payload) c.column_of.ensures
