-- How a server's packets are written.
-- MySQL internals, "Connection Phase Packets": Protocol::HandshakeV10; "Generic Response Packets"; "Text Resultset".
use Rattle.std.specs.Prelude.{ℕ, ◌/◌, ◌%◌, List, [], ◌++◌, length, take, drop, replicate, codes, Option, Some, None, ◌==◌, if◌then◌else◌}
use Rattle.std.specs.List.{flat_map}
use Rattle.my_frame.specs.Writing.{le_bytes, len_bytes, text_bytes, text0_bytes}
use Rattle.my_handshake.specs.declared.greeting.Greeting.{Greeting}
use Rattle.my_reply.specs.declared.ok.OkPacket.{OkPacket}
use Rattle.my_reply.specs.declared.err.ErrPacket.{ErrPacket}
use Rattle.my_reply.specs.declared.column.Column.{Column}
use Rattle.my_reply.specs.declared.server.ServerPacket.{ServerPacket}
use Rattle.my_reply.specs.declared.server.ServerPacket.TheVariants.{Greeting as GreetingPacket, Fine, End, Refuse, Count, Column as ColumnPacket, TextRow}

-- a nonce of 20 bytes: cut, or filled with zeros
unfoldable pub fitted : List ℕ → List ℕ
fitted nonce = take 20 (nonce ++ replicate 20 0)

-- capabilities in two halves, the character set 45 and the status between them, the nonce's length with its zero
abbrev pub settings_bytes : Greeting → List ℕ
settings_bytes g =
    le_bytes 2 (g.capabilities.0 % 65536) ++ le_bytes 1 45 ++ le_bytes 2 g.status.0
    ++ le_bytes 2 (g.capabilities.0 / 65536) ++ le_bytes 1 21 ++ replicate 6 0 ++ le_bytes 4 g.extended.0

-- A greeting: the nonce is in two parts, before and after the settings.
abbrev pub greeting_bytes : Greeting → List ℕ
greeting_bytes g =
    le_bytes 1 10 ++ text0_bytes g.version ++ le_bytes 4 g.id ++ take 8 (fitted g.nonce) ++ le_bytes 1 0
    ++ settings_bytes g ++ drop 8 (fitted g.nonce) ++ le_bytes 1 0 ++ text0_bytes g.plugin

-- no info is written as nothing
abbrev pub info_bytes : List ℕ → List ℕ
info_bytes info = if length info == 0 then [] else text_bytes info

-- An OK, whose head says whether a command succeeded or a set of rows ended.
abbrev pub ok_bytes : ℕ → OkPacket → List ℕ
ok_bytes head ok =
    le_bytes 1 head ++ len_bytes ok.affected ++ len_bytes ok.insert ++ le_bytes 2 ok.status.0 ++ le_bytes 2 ok.warnings
    ++ info_bytes ok.info

-- An ERR with its state.
abbrev pub err_bytes : ErrPacket → List ℕ
err_bytes err = le_bytes 1 0xFF ++ le_bytes 2 err.code ++ le_bytes 1 35 ++ err.state ++ err.message

-- the names of a column, after the catalog `def`
abbrev pub names_bytes : Column → List ℕ
names_bytes c =
    text_bytes (codes "def") ++ text_bytes c.schema ++ text_bytes c.table ++ text_bytes c.org_table
    ++ text_bytes c.name ++ text_bytes c.org_name

-- the form of its values, in twelve bytes
abbrev pub form_bytes : Column → List ℕ
form_bytes c =
    len_bytes 0x0C ++ le_bytes 2 c.charset ++ le_bytes 4 c.length ++ le_bytes 1 c.column_type ++ le_bytes 2 c.flags
    ++ le_bytes 1 c.decimals ++ le_bytes 2 0

-- A column.
abbrev pub column_bytes : Column → List ℕ
column_bytes c = names_bytes c ++ form_bytes c

-- a cell of a row as text; NULL is one byte
abbrev pub cell_bytes : Option (List ℕ) → List ℕ
cell_bytes None = le_bytes 1 0xFB
cell_bytes (Some text) = text_bytes text

-- The payload of each packet.
abbrev pub server_bytes : ServerPacket → List ℕ
server_bytes (GreetingPacket g) = greeting_bytes g
server_bytes (Fine ok) = ok_bytes 0x00 ok
server_bytes (End ok) = ok_bytes 0xFE ok
server_bytes (Refuse err) = err_bytes err
server_bytes (Count n) = len_bytes n
server_bytes (ColumnPacket c) = column_bytes c
server_bytes (TextRow cells) = flat_map cell_bytes cells
