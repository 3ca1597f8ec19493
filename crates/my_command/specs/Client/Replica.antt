-- How the packets are written by which a client asks for a binary log.
-- MySQL internals, "Replication Protocol": COM_REGISTER_SLAVE, COM_BINLOG_DUMP, COM_BINLOG_DUMP_GTID.
use Rattle.std.specs.Prelude.{ℕ, ◌+◌, ◌*◌, ◌<◌, ◌^◌, ◌%◌, List, ◌++◌, length, if◌then◌else◌}
use Rattle.std.specs.List.{flat_map, sum_by}
use Rattle.my_frame.specs.Writing.{le_bytes, short_bytes}
use Rattle.my_command.specs.Client.Transactions.{Transactions}
use Rattle.my_command.specs.declared.replica.RegisterSlave.{RegisterSlave}
use Rattle.my_command.specs.declared.replica.Dump.{Dump}
use Rattle.my_command.specs.declared.replica.DumpGtid.{DumpGtid}

-- Each name has at most 255 bytes.
abbrev pub FitsSlave : RegisterSlave → Type 0
FitsSlave s = (length s.host < 256) × (length s.user < 256) × (length s.password < 256)

-- Makes the client known as a replica, without a rank and a master.
abbrev pub slave_bytes : RegisterSlave → List ℕ
slave_bytes s =
    le_bytes 1 0x15 ++ le_bytes 4 s.server ++ short_bytes s.host ++ short_bytes s.user ++ short_bytes s.password
    ++ le_bytes 2 s.port ++ le_bytes 8 0

-- Asks for a log from a position in a file on; flag 1 ends the stream with the log.
abbrev pub dump_bytes : Dump → List ℕ
dump_bytes d =
    le_bytes 1 0x12 ++ le_bytes 4 (d.position % 2 ^ 32) ++ le_bytes 2 (if d.non_blocking then 1 else 0)
    ++ le_bytes 4 d.server ++ d.file

-- the transactions of one server
abbrev pub interval_bytes : ℕ × ℕ → List ℕ
interval_bytes i = le_bytes 8 i.0 ++ le_bytes 8 i.1

abbrev pub intervals_bytes : List (ℕ × ℕ) → List ℕ
intervals_bytes intervals = flat_map interval_bytes intervals

abbrev pub sid_bytes : Transactions → List ℕ
sid_bytes s = s.uuid ++ le_bytes 8 (length s.intervals) ++ intervals_bytes s.intervals

-- the transactions of all servers
unfoldable pub gtid_block : List Transactions → List ℕ
gtid_block sids = le_bytes 8 (length sids) ++ flat_map sid_bytes sids

-- bytes after four with their length
abbrev pub long_bytes : List ℕ → List ℕ
long_bytes bytes = le_bytes 4 (length bytes) ++ bytes

-- The name and the transactions have fewer than 2^32 bytes each.
abbrev pub FitsDump : DumpGtid → Type 0
FitsDump d = (length d.file < 2 ^ 32) × (length (gtid_block d.sids) < 2 ^ 32)

-- Asks for a log without these transactions; flag 4 is always set.
abbrev pub dump_gtid_bytes : DumpGtid → List ℕ
dump_gtid_bytes d =
    le_bytes 1 0x1E ++ le_bytes 2 (4 + (if d.non_blocking then 1 else 0)) ++ le_bytes 4 d.server ++ long_bytes d.file
    ++ le_bytes 8 d.position ++ long_bytes (gtid_block d.sids)

-- how many bytes the transactions of one server take, and those of all
abbrev pub sid_length : Transactions → ℕ
sid_length s = length s.uuid + 8 + 16 * length s.intervals

abbrev pub block_length : List Transactions → ℕ
block_length sids = 8 + sum_by sid_length sids
