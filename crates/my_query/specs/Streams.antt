-- What a call that gives a stream returns.
use Rattle.std.specs.declared.result.Result.{Result}
use Rattle.std.specs.declared.result.Result.TheVariants.{Ok, Err}
use Rattle.my_reading.specs.declared.error.Error.{Error}
use Rattle.my_conn.specs.Conn.{ConnSeen}
use Rattle.my_rows.specs.declared.lent.Lent.{Lent}
use Rattle.my_results.specs.declared.taken.TakenSet.{TakenSet}
use Rattle.my_results.specs.declared.owned.ResultSetStream.{ResultSetStream}

-- A set was taken so, and its stream has the holder as that left it; or the call failed with this error.
abbrev pub BegunStreamIs : {L C T P : Type 0} → (C → ConnSeen L) → (ConnSeen L → Result TakenSet Error → Type 0)
    → Result (ResultSetStream (Lent C) T P) Error → Type 0
BegunStreamIs conn_of takes (Ok stream) = takes (conn_of stream.result.holder.holder.now) (Ok stream.set)
BegunStreamIs {L} conn_of takes (Err error) = (new : ConnSeen L) × takes new (Err error)
