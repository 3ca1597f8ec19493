-- Values that the definitions of this crate accept, and values that they refute.
use Rattle.std.specs.Prelude.{◌≡◌, List, Bool, true, false, Some, None}
use Rattle.std.specs.declared.result.Result.TheVariants.{Ok, Err}
use Rattle.my_link.specs.Looks.{Looks}
use Rattle.my_reply.specs.declared.column.Column.{Column}
use Rattle.my_value.specs.RowParts.{RowParts}
use Rattle.my_reading.specs.declared.error.Error.{Error}
use Rattle.my_conn.specs.Conn.{ConnSeen}
use Rattle.my_conn.specs.Drives.{NextIs}
use Rattle.my_conn.specs.declared.drive.NextAnswer.TheVariants.{Row}
use Rattle.my_conn.specs.Unread.{has_further, unread_columns}
use Rattle.my_rows.specs.declared.error.QueryError.TheVariants.{Client, FromRow}
use Rattle.my_results.specs.Streams.{ItemLeftIs}
use Rattle.my_results.specs.Unread.{is_empty, next_columns}

-- A set with columns isn't empty, nor is a further set that follows; where there is neither, a result is empty.
pub record EmptyIsTried (L : Type 0) : Type 0 where
  pub rows : (c : ConnSeen L) (columns : List Column) → unread_columns c ≡ Some columns
      → (is_empty c ≡ false) × (next_columns c ≡ columns)
  pub further : (c : ConnSeen L) → unread_columns c ≡ None → has_further c ≡ true → is_empty c ≡ false
  pub none : (c : ConnSeen L) → unread_columns c ≡ None → has_further c ≡ false → is_empty c ≡ true

-- what reads of a stream come to, of rows that become this
pub record ReadsAreTried {L T : Type 0} (look : L → Looks) (converts : RowParts → Type 0)
    (becomes : RowParts → T → Type 0)
    (old new : ConnSeen L) : Type 0 where
  -- a row that doesn't convert is returned, and the stream goes on
  pub unfit : (row : RowParts) → NextIs look old new (Ok (Row row)) → (converts row → ⊥)
      → ItemLeftIs look converts becomes false false old new (Err (FromRow row))
  -- it doesn't end there
  pub shut : (row : RowParts) → ItemLeftIs look converts becomes false true old new (Err (FromRow row)) → ⊥
  -- after another error it doesn't go on
  pub failed : (error : Error) → ItemLeftIs look converts becomes false false old new (Err (Client error)) → ⊥
  -- one that ended gives no value, and doesn't begin again
  pub over : (item : T) (ended : Bool) → ItemLeftIs look converts becomes true ended old new (Ok (Some item)) → ⊥
  pub again : ItemLeftIs look converts becomes true false old new (Ok None) → ⊥

abbrev pub StreamsAreTried : {T : Type 0} → Type 0 → (RowParts → Type 0) → (RowParts → T → Type 0) → Type 0
StreamsAreTried L converts becomes = (look : L → Looks) (old new : ConnSeen L)
    → ReadsAreTried look converts becomes old new
