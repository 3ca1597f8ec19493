-- What a call returned, and whether that closes the connection.
use Rattle.std.specs.Prelude.{Bool, true, false}
use Rattle.my_value.specs.RowParts.{RowParts}
use Rattle.my_statements.specs.Prepared.{StatementView}
use Rattle.my_reading.specs.declared.answer.Answer.{Answer}
use Rattle.my_reading.specs.declared.answer.Answer.TheVariants.{Ready, Row, SetEnd, NoSet, Stmt, Flag}
use Rattle.my_reading.specs.declared.call.CallKind.{CallKind}
use Rattle.my_reading.specs.declared.error.DriverError.{DriverError}
use Rattle.my_reading.specs.declared.error.DriverError.TheVariants as drivers
use Rattle.my_reading.specs.declared.error.Error.{Error}
use Rattle.my_reading.specs.declared.error.ServerError.{ServerError}
use Rattle.my_reading.specs.declared.error.Error.TheVariants.{Driver, Io, Server, Url, Other, NoMemory}
use Rattle.my_reading.specs.Calls.{is_connect, is_quit}

-- What a call returned: an answer, an error, or nothing since it was cancelled, which closed the session or not; or a server's error that it
-- passed over.
pub data Told : Type 0 where
  ToldReady : Told
  ToldRow : (row : RowParts) → Told
  ToldEnd : Told
  ToldNone : Told
  ToldStatement : (statement : StatementView) → Told
  ToldFlag : (flag : Bool) → Told
  ToldError : (e : Error) → Told
  ToldPassed : (e : ServerError) → Told
  Dropped : (closing : Bool) → Told

abbrev pub told : Answer → Told
told Ready = ToldReady
told (Row r) = ToldRow r
told SetEnd = ToldEnd
told NoSet = ToldNone
told (Stmt statement) = ToldStatement statement
told (Flag flag) = ToldFlag flag

-- the refusal of a closed session changes nothing, and neither does that of a text with named parameters and marks, or of a transaction
-- that isn't begun; all other driver's errors close the session
abbrev pub closes_driver : DriverError → Bool
closes_driver drivers.ConnectionClosed = false
closes_driver drivers.MixedParams = false
closes_driver drivers.NestedTransaction = false
closes_driver drivers.ReadOnlyTransNotSupported = false
closes_driver e = true

-- a server's error closes a session that isn't connected
abbrev pub closes_by : Error → CallKind → Bool
closes_by (Driver e) c = closes_driver e
closes_by (Io e) c = true
closes_by (Server e) c = is_connect c
closes_by (Url e) c = true
closes_by (Other e) c = true
closes_by NoMemory c = true

abbrev pub closes : Told → CallKind → Bool
closes ToldReady c = is_quit c
closes (ToldError e) c = closes_by e c
closes (Dropped closing) c = closing
closes _ c = false
