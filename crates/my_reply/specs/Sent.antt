-- Which packets of a server are read back as they were: numbers fit their bytes, and texts can be written.
-- MySQL internals, "Connection Phase Packets", "Generic Response Packets", "Text Resultset".
use Rattle.std.specs.Prelude.{◌≡◌, ℕ, ◌<◌, ◌≤◌, ◌^◌, false, List, length, ◌==◌}
use Rattle.std.specs.List.{before_first}
use Rattle.std.specs.Str.{IsUtf8}
use Rattle.my_handshake.specs.Greeting.{OffersNeeded}
use Rattle.my_handshake.specs.declared.greeting.Greeting.{Greeting}
use Rattle.my_reply.specs.declared.ok.OkPacket.{OkPacket}
use Rattle.my_frame.specs.declared.limits.TheConstants.{FULL_LENGTH}
use Rattle.my_reply.specs.Server.{ok_bytes}
use Rattle.my_reply.specs.declared.column_count.ColumnCount.{ColumnCount}
use Rattle.my_reply.specs.declared.err.ErrPacket.{ErrPacket}
use Rattle.my_reply.specs.declared.column.Column.{Column}

-- A text without a zero.
abbrev pub HasNoZero : List ℕ → Type 0
HasNoZero text = before_first (λ b. b == 0) text ≡ text

pub record IsSentGreeting (g : Greeting) : Type 0 where
  pub version : HasNoZero g.version
  pub id : g.id < 2 ^ 32
  pub nonce : length g.nonce ≡ 20
  pub capabilities : g.capabilities.0 < 2 ^ 32
  pub needed : OffersNeeded g.capabilities
  pub status : g.status.0 < 2 ^ 16
  pub plugin : HasNoZero g.plugin
  pub extended : g.extended.0 < 2 ^ 32

pub record IsSentOk (ok : OkPacket) : Type 0 where
  pub affected : ok.affected < 2 ^ 64
  pub insert : ok.insert < 2 ^ 64
  pub status : ok.status.0 < 2 ^ 16
  pub warnings : ok.warnings < 2 ^ 16
  pub info : length ok.info < 2 ^ 64

-- an OK that ends a set of rows
pub record IsSentEndOk (ok : OkPacket) : Type 0 where
  pub fields : IsSentOk ok
  pub short : length (ok_bytes 0xFE ok) < FULL_LENGTH

-- a count of columns that follow
pub record IsSentCount (columns : ColumnCount) : Type 0 where
  pub some : 0 < columns.count
  pub few : columns.count ≤ 65535
  pub follow : columns.skipped ≡ false

pub record IsSentErr (err : ErrPacket) : Type 0 where
  pub code : err.code < 2 ^ 16
  pub state : length err.state ≡ 5
  pub message : IsUtf8 err.message

pub record IsSentColumn (c : Column) : Type 0 where
  pub schema : length c.schema < 2 ^ 64
  pub table : length c.table < 2 ^ 64
  pub org_table : length c.org_table < 2 ^ 64
  pub name : length c.name < 2 ^ 64
  pub org_name : length c.org_name < 2 ^ 64
  pub charset : c.charset < 2 ^ 16
  pub max_length : c.length < 2 ^ 32
  pub column_type : c.column_type < 2 ^ 8
  pub flags : c.flags < 2 ^ 16
  pub decimals : c.decimals < 2 ^ 8
