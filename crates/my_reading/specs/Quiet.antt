-- Payloads that tell a client nothing of the facts. MySQL client/server protocol, "COM_STMT_PREPARE Response": it has neither a status nor
-- the fields of an OK, and describes no set.
use Rattle.std.specs.Prelude.{◌≡◌, ℕ, List}
use Rattle.my_grammar.specs.declared.packet.Packet.{Packet}
use Rattle.my_reading.specs.declared.facts.Facts.{Facts}
use Rattle.my_reading.specs.declared.facts.PreparedReply.{PreparedReply}
use Rattle.my_reading.specs.Facts.{facts_by}

-- the same facts after another number of payloads, and after another reply to a statement to prepare
abbrev pub at_place : ℕ → PreparedReply → Facts → Facts
at_place place reply f = record { version = f.version; connection = f.connection; caching = f.caching; nonce = f.nonce; status = f.status; ok = f.ok; left = f.left; gathered = f.gathered; columns = f.columns; settings = f.settings; reply = reply; place = place }

-- After these payloads all facts are as they were, but for the count of payloads and the newest reply to a statement to prepare.
abbrev pub TellsNothing : List Packet → Type 0
TellsNothing packets = (f : Facts) → (place : ℕ) × (reply : PreparedReply) × (facts_by packets f ≡ at_place place reply f)
