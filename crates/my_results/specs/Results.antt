-- What a call that gives a result returns.
use Rattle.std.specs.declared.result.Result.{Result}
use Rattle.std.specs.declared.result.Result.TheVariants.{Ok, Err}
use Rattle.my_reading.specs.declared.error.Error.{Error}
use Rattle.my_conn.specs.Conn.{ConnSeen}
use Rattle.my_rows.specs.declared.lent.Lent.{Lent}
use Rattle.my_results.specs.declared.result.QueryResult.{QueryResult}

-- A call began the answer so, and the holder is lent as it left it; or it failed with this error.
abbrev pub BegunIs : {L C P : Type 0} → (C → ConnSeen L) → (ConnSeen L → Result (Unit {0}) Error → Type 0)
    → Result (QueryResult (Lent C) P) Error → Type 0
BegunIs conn_of begins (Ok lent) = begins (conn_of lent.holder.holder.now) (Ok tt)
BegunIs {L} conn_of begins (Err error) = (new : ConnSeen L) × begins new (Err error)
