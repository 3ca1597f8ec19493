-- What a transaction of a client that is lent does.
use Rattle.std.specs.Borrow.{GName}
use Rattle.std.specs.declared.result.Result.{Result}
use Rattle.std.specs.declared.result.Result.TheVariants.{Ok, Err}
use Rattle.my_link.specs.Looks.{Looks}
use Rattle.my_opts_parts.specs.TransactionOptions.{TxView}
use Rattle.my_reading.specs.declared.call.Call.TheVariants as calls
use Rattle.my_reading.specs.declared.call.CallKind.TheVariants as kinds
use Rattle.my_reading.specs.declared.error.Error.{Error}
use Rattle.my_conn.specs.Conn.{ConnSeen}
use Rattle.my_conn.specs.Drives.{DoneIs}
use Rattle.my_connect.specs.Idle.{idle_of}
use Rattle.my_connect.specs.declared.transaction.Transaction.{Transaction}

-- which reference it holds
abbrev pub name_of : {L : Type 0} → Transaction L → GName
name_of t = t.client.ghost_name

-- a transaction of a client that became this
abbrev pub with_client : {L : Type 0} → Transaction L → ConnSeen L → Transaction L
with_client t c = record { client = record { ref_ptr = t.client.ref_ptr; ghost_name = t.client.ghost_name; now = c } }

-- whether it began, or why not
abbrev pub begun_by : {L : Type 0} → Result (Transaction L) Error → Result (Unit {0}) Error
begun_by (Ok transaction) = Ok tt
begun_by (Err error) = Err error

-- A call that begins a transaction with these options was made, and this came of it.
abbrev pub BeginIs : {L : Type 0} → (L → Looks) → TxView → ConnSeen L → ConnSeen L → Result (Unit {0}) Error → Type 0
BeginIs look opts old new result = DoneIs look kinds.Begin (calls.Begin opts) (idle_of old) (idle_of new) result
