-- The payloads of a scripted answer. MySQL client/server protocol, "Text Resultset" and "Multi-Resultset": a count, that many
-- columns, an EOF unless both sides deprecate it, rows and an end, whose status says whether another set follows.
use Rattle.std.specs.Prelude.{ℕ, ◌^◌, ◌<◌, Bool, true, false, List, [], ◌∷◌, ◌++◌, length, map, ◌==◌, if◌then◌else◌}
use Rattle.std.specs.List.{AllByRecursion}
use Rattle.my_flags.specs.declared.flags.StatusFlags.{StatusFlags}
use Rattle.my_frame.specs.Writing.{le_bytes}
use Rattle.my_reply.specs.declared.ok.OkPacket.{OkPacket}
use Rattle.my_reply.specs.declared.column.Column.{Column}
use Rattle.my_reply.specs.declared.server.ServerPacket.TheVariants as packets
use Rattle.my_reply.specs.Server.{server_bytes}
use Rattle.std.specs.Prelude.{Option}
use Rattle.my_server.specs.declared.answer.TheConstants.{DONE, FURTHER}
use Rattle.my_server.specs.declared.script.ServerSet.{ServerSet}
use Rattle.my_server.specs.declared.script.ReplyAnswer.{ReplyAnswer}
use Rattle.my_server.specs.declared.script.ReplyAnswer.TheVariants.{Fine, Refuse, Sets}

-- an OK with this status and nothing else to say
abbrev pub ok_of : StatusFlags → OkPacket
ok_of status = record { affected = 0; insert = 0; status = status; warnings = 0; info = [] }

-- a column of this name: utf8mb4, at most 1,024 bytes of VAR_STRING
abbrev pub column_of : List ℕ → Column
column_of name = record {
  schema = [];
  table = [];
  org_table = [];
  name = name;
  org_name = [];
  charset = 45;
  length = 1024;
  column_type = 253;
  flags = 0;
  decimals = 0;
}

abbrev pub column_payload : List ℕ → List ℕ
column_payload name = server_bytes (packets.Column (column_of name))

abbrev pub row_payload : List (Option (List ℕ)) → List ℕ
row_payload cells = server_bytes (packets.TextRow cells)

-- an EOF without warnings
abbrev pub eof_payload : StatusFlags → List ℕ
eof_payload status = le_bytes 1 0xFE ++ le_bytes 2 0 ++ le_bytes 2 status.0

-- the EOF after the columns, where EOF packets aren't deprecated
abbrev pub close_payloads : Bool → StatusFlags → List (List ℕ)
close_payloads true status = []
close_payloads false status = eof_payload status ∷ []

-- a set's end
abbrev pub end_payload : Bool → StatusFlags → List ℕ
end_payload true status = server_bytes (packets.End (ok_of status))
end_payload false status = eof_payload status

-- what comes before the rows of a set
abbrev pub head_payloads : Bool → StatusFlags → List (List ℕ) → List (List ℕ)
head_payloads deprecates status names =
    server_bytes (packets.Count (length names)) ∷ map column_payload names ++ close_payloads deprecates status

-- a set that ends with this status
abbrev pub set_payloads : Bool → StatusFlags → ServerSet → List (List ℕ)
set_payloads deprecates status set =
    server_bytes (packets.Count (length set.names)) ∷ map column_payload set.names ++ close_payloads deprecates status
    ++ map row_payload set.rows ++ end_payload deprecates status ∷ []

-- the status of a set after which this number of sets is left
abbrev pub set_status : ℕ → StatusFlags
set_status left = if left == 0 then DONE else FURTHER

-- sets in order
abbrev pub sets_payloads : Bool → List ServerSet → List (List ℕ)
sets_payloads deprecates [] = []
sets_payloads deprecates (set ∷ sets) =
    set_payloads deprecates (set_status (length sets)) set ++ sets_payloads deprecates sets

-- an answer
abbrev pub reply_payloads : Bool → ReplyAnswer → List (List ℕ)
reply_payloads deprecates (Fine ok) = server_bytes (packets.Fine ok) ∷ []
reply_payloads deprecates (Refuse err) = server_bytes (packets.Refuse err) ∷ []
reply_payloads deprecates (Sets sets) = sets_payloads deprecates sets

-- each set has a number of columns that can be sent
abbrev pub AreFew : List ServerSet → Type 0
AreFew sets = AllByRecursion (λ set. length set.names < 2 ^ 16) sets

abbrev pub CanSend : ReplyAnswer → Type 0
CanSend (Fine ok) = Unit {0}
CanSend (Refuse err) = Unit {0}
CanSend (Sets sets) = AreFew sets
