-- Which command a client's payload is. MySQL client/server protocol, "Text Protocol" and "Utility Commands": COM_QUIT,
-- COM_PING, COM_RESET_CONNECTION and COM_QUERY.
use Rattle.std.specs.Prelude.{ℕ, List, [], ◌∷◌, length, ◌==◌, if◌then◌else◌}
use Rattle.my_server.specs.declared.command.CommandKind.{CommandKind}
use Rattle.my_server.specs.declared.command.CommandKind.TheVariants.{Quit, Ping, ResetConnection, Query, Other}

-- a command of one byte
abbrev pub lone_kind : ℕ → CommandKind
lone_kind head =
    if head == 0x01 then Quit else (if head == 0x0E then Ping else (if head == 0x1F then ResetConnection else Other))

abbrev pub command_kind : List ℕ → CommandKind
command_kind [] = Other
command_kind (head ∷ text) = if head == 0x03 then Query else (if length text == 0 then lone_kind head else Other)

-- the bytes after the first
abbrev pub query_text : List ℕ → List ℕ
query_text [] = []
query_text (head ∷ text) = text
