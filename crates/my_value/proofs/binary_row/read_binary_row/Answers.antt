use Rattle.std.proofs.Common.{List}
use Rattle.my_value.specs.declared.value.Value.{Value}
use Rattle.my_value.specs.RowParts.{columns_of}
use Rattle.my_value.specs.BinaryRow.{IsBinaryRow}
use Rattle.my_value.proofs.Rows.{row_exact, row_found, row_only}
use Rattle.my_value.proofs.Rows.BinaryRows.{binary_row_found, binary_row_again}
use Rattle.my_value.proofs.binary_row.read_binary_row.Goals as goal

pub returns-clause-exact : goal.returns-clause-exact
returns-clause-exact c = row_exact _ _ _ (rw c.column_list.ensures at c.binary_row.ensures) c.row_or_error.ensures.cells

pub returns-clause-found : goal.returns-clause-found
returns-clause-found c =
    let Is : List Value → Type 0 = λ cells. IsBinaryRow (columns_of c.args.columns.now) c.args.payload.now cells in
    row_found Is _ (binary_row_found (columns_of c.args.columns.now) c.args.payload.now) _ (returns-clause-exact c)

pub returns-clause-only : goal.returns-clause-only
returns-clause-only c =
    let Is : List Value → Type 0 = λ cells. IsBinaryRow (columns_of c.args.columns.now) c.args.payload.now cells in
    row_only Is _ (binary_row_again (columns_of c.args.columns.now) c.args.payload.now) _ (returns-clause-exact c)
