use Rattle.my_value.proofs.Rows.TextRows.{text_row_found, text_row_again}
use Rattle.my_value.proofs.laws.text_rows_are_read.Goals as goal

pub returns : goal.returns
returns c = λ count payload cells. (text_row_found count payload cells, text_row_again count payload cells)
