-- What a row is to its reader.
use Rattle.std.specs.Prelude.{List, Vec}
use Rattle.std.specs.Arc.{arc_value}
use Rattle.std.specs.declared.sync.Arc.{Arc}
use Rattle.my_value.specs.declared.value.Value.{Value}
use Rattle.my_reply.specs.declared.column.Column.{Column}

-- the cells, and the columns that they belong to
pub record RowParts : Type 0 where
  pub cells : List Value
  pub columns : List Column

-- the columns that a result shares among its rows
abbrev pub columns_of : {A B : Type 0} → Arc (Vec Column A) B → List Column
columns_of columns = (arc_value columns).items
