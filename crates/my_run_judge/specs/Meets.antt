-- What a poll met of its link, by what it came to.
use Rattle.std.specs.Prelude.{◌≡◌, ◌≤◌, ◌⊎◌, ℕ}
use Rattle.my_frame.specs.declared.limits.TheConstants.{MOST_TAKEN}
use Rattle.my_link.specs.declared.met.Met.{Met}
use Rattle.my_reading.specs.declared.error.DriverError.{DriverError}
use Rattle.my_reading.specs.declared.error.DriverError.TheVariants as drivers
use Rattle.my_reading.specs.declared.error.Error.{Error}
use Rattle.my_reading.specs.declared.error.Error.TheVariants as errors
use Rattle.my_reading.specs.declared.error.IoError.{IoError}
use Rattle.my_reading.specs.declared.error.IoError.TheVariants as ios
use Rattle.my_reading.specs.declared.error.IoKind.{IoKind}
use Rattle.my_reading.specs.declared.error.IoKind.TheVariants as kinds
use Rattle.my_script.specs.declared.transcript.Outcome.{Outcome}
use Rattle.my_script.specs.declared.transcript.Outcome.TheVariants.{Done, Pending, SetEnd, NoSet, Row, Rows, Prepared, Flag, Fields, Connected, Failed, NoSuchHandle}

-- these counts of bytes, faults, holds and ends; a poll counts nothing else
abbrev pub met_at : ℕ → ℕ → ℕ → ℕ → Met
met_at taken faults holds ends = record {
  faults = faults;
  holds = holds;
  ends = ends;
  deaths = 0;
  broken = 0;
  unlisted = 0;
  absent = 0;
  refused = 0;
  taken = taken;
  fed = 0;
}

abbrev pub HasMet : Met → ℕ → ℕ → ℕ → Type 0
HasMet m faults holds ends = m ≡ met_at m.taken faults holds ends

-- the link was ready, and didn't end
abbrev pub IsReady : Met → Type 0
IsReady m = HasMet m 0 0 0

-- one read or write wasn't ready; or all were, and the poll took all that it may
abbrev pub IsHeld : Met → Type 0
IsHeld m = HasMet m 0 1 0 ⊎ (IsReady m × (MOST_TAKEN ≤ m.taken))

-- the error is in what was said so far, which the link may have ended after
abbrev pub IsInBytes : Met → Type 0
IsInBytes m = IsReady m ⊎ HasMet m 0 0 1

-- A link's fault was met once, the end that came too early once; each other error is in the bytes. A dial is no poll.
abbrev pub KindMet : IoKind → Met → Type 0
KindMet kinds.Link m = HasMet m 1 0 0
KindMet kinds.Dial m = ⊥
KindMet kinds.UnexpectedEof m = HasMet m 0 0 1
KindMet kinds.InvalidData m = IsInBytes m

abbrev pub IoMet : IoError → Met → Type 0
IoMet (ios.Io fault) m = KindMet fault.kind m
IoMet (ios.Codec fault) m = IsInBytes m

-- Of the driver's own refusals a poll comes to those of a text to prepare, of parameters, of a transaction, and of what a server asks for
-- where the client shows who it is. A call that a closed connection
-- refuses isn't polled, and no call of a run takes too many bytes.
abbrev pub DriverMet : DriverError → Met → Type 0
DriverMet drivers.MixedParams m = IsInBytes m
DriverMet drivers.NestedTransaction m = IsInBytes m
DriverMet drivers.ReadOnlyTransNotSupported m = IsInBytes m
DriverMet (drivers.Params e) m = IsInBytes m
DriverMet (drivers.StmtParamsMismatch required supplied) m = IsInBytes m
DriverMet (drivers.StmtParamsNumberExceedsLimit supplied) m = IsInBytes m
DriverMet (drivers.UnexpectedPacket payload) m = IsInBytes m
DriverMet (drivers.UnknownAuthPlugin name) m = IsInBytes m
DriverMet drivers.CleartextPluginDisabled m = IsInBytes m
DriverMet drivers.MysqlOldPasswordDisabled m = IsInBytes m
DriverMet drivers.FullAuthRefused m = IsInBytes m
DriverMet e m = ⊥

abbrev pub ErrorMet : Error → Met → Type 0
ErrorMet (errors.Driver e) m = DriverMet e m
ErrorMet (errors.Io e) m = IoMet e m
ErrorMet (errors.Server e) m = IsInBytes m
ErrorMet (errors.Url e) m = ⊥
ErrorMet (errors.Other e) m = ⊥
ErrorMet errors.NoMemory m = ⊥

-- by what the line shows of it
abbrev pub ShownMet : Outcome → Met → Type 0
ShownMet Done m = IsReady m
ShownMet Pending m = IsHeld m
ShownMet SetEnd m = IsReady m
ShownMet NoSet m = IsReady m
ShownMet (Row row) m = IsReady m
ShownMet (Rows rows) m = IsReady m
ShownMet (Prepared statement) m = IsReady m
ShownMet (Flag flag) m = IsReady m
ShownMet (Fields ok) m = IsReady m
ShownMet (Connected n id version) m = IsReady m
ShownMet (Failed e) m = ErrorMet e m
ShownMet NoSuchHandle m = IsReady m

-- the last poll of a line, which took no more than a poll may
abbrev pub LastMet : Outcome → Met → Type 0
LastMet outcome m = (m.taken ≤ MOST_TAKEN) × ShownMet outcome m

-- an earlier one, which returned a row
abbrev pub RowMet : Met → Type 0
RowMet m = (m.taken ≤ MOST_TAKEN) × IsReady m
