-- What of a result is still to be read.
use Rattle.std.specs.Prelude.{List, [], Bool, not, ◌&&◌, Option, Some, None, is_some}
use Rattle.my_reply.specs.declared.column.Column.{Column}
use Rattle.my_conn.specs.Conn.{ConnSeen}
use Rattle.my_conn.specs.Unread.{has_further, unread_columns}

abbrev pub columns_in : Option (List Column) → List Column
columns_in None = []
columns_in (Some columns) = columns

-- the columns of the set whose rows, or whose end, are next; none where it has none
abbrev pub next_columns : {L : Type 0} → ConnSeen L → List Column
next_columns c = columns_in (unread_columns c)

-- no set with columns is unread, and no further set follows
abbrev pub is_empty : {L : Type 0} → ConnSeen L → Bool
is_empty c = not (is_some (unread_columns c)) && not (has_further c)
