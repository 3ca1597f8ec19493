-- What a client learns from the server's payloads, as a fold over them.
-- MySQL internals, "Protocol::Handshake" (version, connection id and nonce), "OK_Packet", "ERR_Packet", "Text Resultset" and
-- "COM_STMT_PREPARE Response", which has neither a status nor the fields of an OK.
use Rattle.std.specs.Prelude.{ℕ, ◌+◌, ◌-◌, ◌^◌, min, List, [], ◌∷◌, ◌++◌, nat_le, Option, Some, None, Bool, true, false, if◌then◌else◌}
use Rattle.my_flags.specs.declared.flags.StatusFlags.{StatusFlags}
use Rattle.my_reply.specs.declared.ok.OkPacket.{OkPacket}
use Rattle.my_handshake.specs.declared.greeting.Greeting.{Greeting}
use Rattle.my_reply.specs.declared.column.Column.{Column}
use Rattle.my_reply.specs.OkPacket.{ok_at, end_ok_at}
use Rattle.my_handshake.specs.Greeting.{greeting_at}
use Rattle.my_reply.specs.Column.{column_at}
use Rattle.my_reply.specs.declared.replies.PrepareOk.{PrepareOk}
use Rattle.my_reply.specs.Replies.{prepare_ok_at}
use Rattle.my_auth.specs.declared.chain.AuthAsk.{AuthAsk}
use Rattle.my_auth.specs.declared.chain.AuthAsk.TheVariants.{Switch}
use Rattle.my_auth.specs.declared.plugin.AuthPlugin.TheVariants.{Native, Caching}
use Rattle.my_auth.specs.Chain.{nonce_in}
use Rattle.my_grammar.specs.Kinds.{is_caching}
use Rattle.my_grammar.specs.declared.spot.RowFormat.TheVariants.{Text}
use Rattle.my_grammar.specs.declared.spot.Kind.{Kind}
use Rattle.my_grammar.specs.declared.spot.Kind.TheVariants.{Greets, Asks, Good, Failed, Count, Column as ColumnKind, ColumnsDone, Row, End, Prepared, Parameter, Field, Bad}
use Rattle.my_grammar.specs.declared.login.Login.{Login}
use Rattle.my_grammar.specs.declared.packet.Packet.{Packet}
use Rattle.my_reading.specs.declared.facts.Facts.{Facts}
use Rattle.my_reading.specs.declared.facts.PreparedReply.{PreparedReply}
use Rattle.my_statements.specs.declared.statement.StmtInner.{StmtInner}
use Rattle.my_reading.specs.declared.settings.Settings.{Settings}
use Rattle.my_reading.specs.Rows.{row_at}
use Rattle.my_reading.specs.Settings.{first_settings, good_settings, end_settings, row_settings}

-- no status bits
abbrev pub no_status : StatusFlags
no_status = record { 0 = 0 }

-- before a statement was prepared
abbrev pub first_reply : PreparedReply
first_reply = record { id = 0; num_params = 0; num_columns = 0; params = []; fields = [] }

-- before the first payload
abbrev pub first_facts : Login → Facts
first_facts login = record { version = []; connection = 0; caching = false; nonce = []; status = no_status; ok = None; left = 0; gathered = []; columns = []; settings = first_settings login; reply = first_reply; place = 0 }

-- one payload more; the count stays at its last value
abbrev pub counted : Facts → Facts
counted f = record { version = f.version; connection = f.connection; caching = f.caching; nonce = f.nonce; status = f.status; ok = f.ok; left = f.left; gathered = f.gathered; columns = f.columns; settings = f.settings; reply = f.reply; place = min (f.place + 1) (2 ^ 64 - 1) }

-- a greeting has the server's version, the connection's number, and the nonce by which a client proves that it knows its password,
-- with the plugin for which it is
abbrev pub with_greeting : Option Greeting → Facts → Facts
with_greeting None f = f
with_greeting (Some g) f = record { version = g.version; connection = g.id; caching = is_caching g.plugin; nonce = g.nonce; status = f.status; ok = f.ok; left = f.left; gathered = f.gathered; columns = f.columns; settings = f.settings; reply = f.reply; place = f.place }

-- another nonce, for `caching_sha2_password` or for the native plugin
abbrev pub with_nonce : Bool → List ℕ → Facts → Facts
with_nonce caching nonce f = record { version = f.version; connection = f.connection; caching = caching; nonce = nonce; status = f.status; ok = f.ok; left = f.left; gathered = f.gathered; columns = f.columns; settings = f.settings; reply = f.reply; place = f.place }

-- a switch to one of the two has a nonce, which a later change of user answers
abbrev pub with_ask : AuthAsk → List ℕ → Facts → Facts
with_ask (Switch Native) p f = with_nonce false (nonce_in p) f
with_ask (Switch Caching) p f = with_nonce true (nonce_in p) f
with_ask ask p f = f

-- an OK has the status, and stays the last one; so does the OK that ends a set
abbrev pub with_ok : Option OkPacket → StatusFlags → Facts → Facts
with_ok ok status f = record { version = f.version; connection = f.connection; caching = f.caching; nonce = f.nonce; status = status; ok = ok; left = f.left; gathered = f.gathered; columns = f.columns; settings = f.settings; reply = f.reply; place = f.place }

-- a head begins, of n columns
abbrev pub with_count : ℕ → Facts → Facts
with_count n f = record { version = f.version; connection = f.connection; caching = f.caching; nonce = f.nonce; status = f.status; ok = f.ok; left = n; gathered = []; columns = f.columns; settings = f.settings; reply = f.reply; place = f.place }

-- a column joins those of its head, or makes the head whole
abbrev pub with_column : Option Column → Facts → Facts
with_column None f = f
with_column (Some c) f =
    if nat_le f.left 1
    then record { version = f.version; connection = f.connection; caching = f.caching; nonce = f.nonce; status = f.status; ok = f.ok; left = 0; gathered = []; columns = f.gathered ++ c ∷ []; settings = f.settings; reply = f.reply; place = f.place }
    else record { version = f.version; connection = f.connection; caching = f.caching; nonce = f.nonce; status = f.status; ok = f.ok; left = f.left - 1; gathered = f.gathered ++ c ∷ []; columns = f.columns; settings = f.settings; reply = f.reply; place = f.place }

-- what is known of the settings
abbrev pub with_settings : Settings → Facts → Facts
with_settings settings f = record { version = f.version; connection = f.connection; caching = f.caching; nonce = f.nonce; status = f.status; ok = f.ok; left = f.left; gathered = f.gathered; columns = f.columns; settings = settings; reply = f.reply; place = f.place }

-- what the newest reply to a statement to prepare said
abbrev pub with_reply : PreparedReply → Facts → Facts
with_reply reply f = record { version = f.version; connection = f.connection; caching = f.caching; nonce = f.nonce; status = f.status; ok = f.ok; left = f.left; gathered = f.gathered; columns = f.columns; settings = f.settings; reply = reply; place = f.place }

-- a statement was prepared: its id, and how many parameters and columns it has, which follow
abbrev pub with_head : Option PrepareOk → Facts → Facts
with_head None f = f
with_head (Some ok) f = with_reply (record { id = ok.id; num_params = ok.params; num_columns = ok.columns; params = []; fields = [] }) f

abbrev pub with_parameter : Option Column → Facts → Facts
with_parameter None f = f
with_parameter (Some c) f = with_reply (record { id = f.reply.id; num_params = f.reply.num_params; num_columns = f.reply.num_columns; params = f.reply.params ++ c ∷ []; fields = f.reply.fields }) f

abbrev pub with_field : Option Column → Facts → Facts
with_field None f = f
with_field (Some c) f = with_reply (record { id = f.reply.id; num_params = f.reply.num_params; num_columns = f.reply.num_columns; params = f.reply.params; fields = f.reply.fields ++ c ∷ [] }) f

-- what a payload of this kind adds: the settings are asked for by a query, whose rows are of the text protocol; an ERR empties the status and leaves no last OK
abbrev pub told_after : Kind → List ℕ → Facts → Facts
told_after (Greets offer) p f = with_greeting (greeting_at p) f
told_after (Asks ask) p f = with_ask ask p f
told_after (Good status) p f = with_settings (good_settings f.settings.stage f.settings) (with_ok (ok_at p) status f)
told_after Failed p f = with_ok None no_status f
told_after (Count n) p f = with_count n f
told_after ColumnKind p f = with_column (column_at p) f
told_after ColumnsDone p f = f
told_after Row p f = with_settings (row_settings (row_at Text f.columns p) f.settings) f
told_after (End status) p f = with_settings (end_settings f.settings.stage f.settings) (with_ok (end_ok_at p) status f)
told_after (Prepared params columns) p f = with_head (prepare_ok_at p) f
told_after Parameter p f = with_parameter (column_at p) f
told_after Field p f = with_field (column_at p) f
told_after Bad p f = f

abbrev pub facts_after : Kind → List ℕ → Facts → Facts
facts_after k p f = counted (told_after k p f)

-- the newest payload first
abbrev pub facts_by : List Packet → Facts → Facts
facts_by [] f = f
facts_by (packet ∷ packets) f = facts_after packet.kind packet.payload (facts_by packets f)

-- the statement that was prepared last
abbrev pub prepared_by : Facts → StmtInner
prepared_by f = record { id = f.reply.id; connection_id = f.connection; num_params = f.reply.num_params; num_columns = f.reply.num_columns; params = f.reply.params }
