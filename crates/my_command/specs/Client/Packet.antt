-- How each packet of a client is written.
-- MySQL internals, "Command Phase": Text Protocol, Utility Commands, Prepared Statements; "Connection Phase Packets":
-- AuthSwitchResponse.
use Rattle.std.specs.Prelude.{ℕ, ◌<◌, List, [], ◌∷◌, ◌++◌, length}
use Rattle.my_command.specs.declared.client.ClientPacket.{ClientPacket}
use Rattle.my_command.specs.declared.client.ClientPacket.TheVariants.{Response, SwitchAnswer, Quit, Ping, ResetConnection, ChangeUser, Query, InfilePiece, Prepare, Execute, LongData, BulkExecute, CloseStatement, RegisterSlave, Dump, DumpGtid}
use Rattle.my_frame.specs.Writing.{le_bytes}
use Rattle.my_handshake.specs.Login.{change_user_bytes, response_bytes}
use Rattle.my_command.specs.Client.Statement.{bulk_bytes, execute_bytes}
use Rattle.my_command.specs.Client.Replica.{FitsDump, FitsSlave, dump_bytes, dump_gtid_bytes, slave_bytes}

-- Each part with one byte of length has at most 255 bytes, each with four fewer than 2^32.
abbrev pub PartsFit : ClientPacket → Type 0
PartsFit (Response r) = length r.scramble < 256
PartsFit (ChangeUser c) = length c.scramble < 256
PartsFit (RegisterSlave s) = FitsSlave s
PartsFit (DumpGtid d) = FitsDump d
PartsFit _ = Unit {0}

-- a part of one parameter's value, before the statement's execution
abbrev pub long_data_bytes : ℕ → ℕ → List ℕ → List ℕ
long_data_bytes statement parameter bytes = le_bytes 1 0x18 ++ le_bytes 4 statement ++ le_bytes 2 parameter ++ bytes

-- The payload of each packet.
abbrev pub client_bytes : ClientPacket → List ℕ
client_bytes (Response r) = response_bytes r
client_bytes (SwitchAnswer answer) = answer
client_bytes Quit = 0x01 ∷ []
client_bytes Ping = 0x0E ∷ []
client_bytes ResetConnection = 0x1F ∷ []
client_bytes (ChangeUser c) = change_user_bytes c
client_bytes (Query text) = 0x03 ∷ text
client_bytes (InfilePiece piece) = piece
client_bytes (Prepare text) = 0x16 ∷ text
client_bytes (Execute e) = execute_bytes e.statement e.parameters
client_bytes (LongData statement parameter bytes) = long_data_bytes statement parameter bytes
client_bytes (BulkExecute b) = bulk_bytes b
client_bytes (CloseStatement statement) = 0x19 ∷ le_bytes 4 statement
client_bytes (RegisterSlave s) = slave_bytes s
client_bytes (Dump d) = dump_bytes d
client_bytes (DumpGtid d) = dump_gtid_bytes d
