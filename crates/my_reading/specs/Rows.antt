-- A payload of a set as the row of its columns.
-- MySQL internals, "Text Resultset" and "Binary Protocol Resultset": a row has a cell for each column.
use Rattle.std.specs.Prelude.{ℕ, List, [], length, Option, Some, None}
use Rattle.my_reply.specs.declared.column.Column.{Column}
use Rattle.my_value.specs.declared.value.Value.{Value}
use Rattle.my_value.specs.RowParts.{RowParts}
use Rattle.my_grammar.specs.declared.spot.RowFormat.{RowFormat}
use Rattle.my_grammar.specs.Kinds.{cells_at}

abbrev pub row_with : List Column → Option (List Value) → Option RowParts
row_with columns None = None
row_with columns (Some cells) = Some (record { cells = cells; columns = columns })

-- the payload as a row, if it is one
abbrev pub row_at : RowFormat → List Column → List ℕ → Option RowParts
row_at rows columns p = row_with columns (cells_at rows (length columns) columns p)

abbrev pub row_or : List Column → Option RowParts → RowParts
row_or columns None = record { cells = []; columns = columns }
row_or columns (Some row) = row

-- the row, where the payload is known to be one
abbrev pub row_of : RowFormat → List Column → List ℕ → RowParts
row_of rows columns p = row_or columns (row_at rows columns p)
