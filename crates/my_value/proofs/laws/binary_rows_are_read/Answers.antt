use Rattle.my_value.proofs.Rows.BinaryRows.{binary_row_found, binary_row_again}
use Rattle.my_value.proofs.laws.binary_rows_are_read.Goals as goal

pub returns : goal.returns
returns c = λ columns payload cells. (binary_row_found columns payload cells, binary_row_again columns payload cells)
