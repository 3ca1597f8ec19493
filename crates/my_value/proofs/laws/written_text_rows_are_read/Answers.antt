use Rattle.my_value.proofs.Rows.WrittenRows.{text_row_read_back}
use Rattle.my_value.proofs.laws.written_text_rows_are_read.Goals as goal

pub returns : goal.returns
returns c = text_row_read_back
