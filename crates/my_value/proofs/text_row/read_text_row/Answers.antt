use Rattle.std.proofs.Common.{List, length}
use Rattle.my_value.specs.declared.value.Value.{Value}
use Rattle.my_value.specs.RowParts.{columns_of}
use Rattle.my_value.specs.TextRow.{IsTextRow}
use Rattle.my_value.proofs.Rows.{row_exact, row_found, row_only}
use Rattle.my_value.proofs.Rows.TextRows.{text_row_found, text_row_again}
use Rattle.my_value.proofs.text_row.read_text_row.Goals as goal

pub returns-clause-exact : goal.returns-clause-exact
returns-clause-exact c = row_exact _ _ _ (rw c.column_count.ensures at c.text_row.ensures) c.row_or_error.ensures.cells

pub returns-clause-found : goal.returns-clause-found
returns-clause-found c =
    let Is : List Value → Type 0 = λ cells. IsTextRow (length (columns_of c.args.columns.now)) c.args.payload.now cells in
    row_found Is _ (text_row_found (length (columns_of c.args.columns.now)) c.args.payload.now) _ (returns-clause-exact c)

pub returns-clause-only : goal.returns-clause-only
returns-clause-only c =
    let Is : List Value → Type 0 = λ cells. IsTextRow (length (columns_of c.args.columns.now)) c.args.payload.now cells in
    row_only Is _ (text_row_again (length (columns_of c.args.columns.now)) c.args.payload.now) _ (returns-clause-exact c)
