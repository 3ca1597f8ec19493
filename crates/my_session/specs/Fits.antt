-- Which answers a call may return, by its kind, and which refusals of the driver.
use Rattle.std.specs.Prelude.{Bool, true, false, not, ◌||◌}
use Rattle.my_reading.specs.declared.call.CallKind.{CallKind}
use Rattle.my_reading.specs.declared.call.CallKind.TheVariants.{NextRow, Prepare, TakeSet, Reset}
use Rattle.my_reading.specs.declared.error.DriverError.{DriverError}
use Rattle.my_reading.specs.declared.error.DriverError.TheVariants as drivers
use Rattle.my_reading.specs.Told.{Told, ToldReady, ToldNone, ToldStatement, ToldFlag, ToldError, Dropped}

-- the one call that is answered by rows and ends
abbrev pub reads : CallKind → Bool
reads NextRow = true
reads _ = false

-- a read, and a stream that is to take a set, may find that nothing is left
abbrev pub may_lack_sets : CallKind → Bool
may_lack_sets NextRow = true
may_lack_sets TakeSet = true
may_lack_sets _ = false

-- the one call that is answered by a statement
abbrev pub prepares : CallKind → Bool
prepares Prepare = true
prepares _ = false

-- the one call that is answered by a flag
abbrev pub resets : CallKind → Bool
resets Reset = true
resets _ = false

-- a read returns a row, an end, or that nothing is left, a statement to prepare itself, and a reset whether the server can; each other
-- call returns that it is done, or that nothing is left for a stream; each may fail
abbrev pub may_be : CallKind → Told → Bool
may_be c ToldReady = not (reads c || prepares c || resets c)
may_be c (ToldStatement statement) = prepares c
may_be c (ToldFlag flag) = resets c
may_be c ToldNone = may_lack_sets c
may_be c (ToldError e) = true
may_be c (Dropped closing) = true
may_be c _ = reads c

-- the refusals of the driver that a call of an open session may return: of a text, of values, of a transaction, of what a server asks for
-- where the client shows who it is
abbrev pub OwnDriver : DriverError → Type 0
OwnDriver drivers.MixedParams = Unit {0}
OwnDriver drivers.NestedTransaction = Unit {0}
OwnDriver drivers.ReadOnlyTransNotSupported = Unit {0}
OwnDriver (drivers.Params e) = Unit {0}
OwnDriver (drivers.StmtParamsMismatch required supplied) = Unit {0}
OwnDriver (drivers.StmtParamsNumberExceedsLimit supplied) = Unit {0}
OwnDriver (drivers.UnexpectedPacket payload) = Unit {0}
OwnDriver (drivers.UnknownAuthPlugin name) = Unit {0}
OwnDriver drivers.CleartextPluginDisabled = Unit {0}
OwnDriver drivers.MysqlOldPasswordDisabled = Unit {0}
OwnDriver drivers.FullAuthRefused = Unit {0}
OwnDriver _ = ⊥
