-- The command that a call sends, as the exchange that it begins with a client's packet.
-- MySQL internals, "Text Protocol", "Prepared Statements" and "Utility Commands": COM_QUERY, COM_STMT_PREPARE, COM_STMT_EXECUTE,
-- COM_STMT_SEND_LONG_DATA, COM_STMT_CLOSE, COM_PING, COM_RESET_CONNECTION, COM_CHANGE_USER, COM_QUIT.
use Rattle.std.specs.Prelude.{ℕ, zero, Bool, true, false, suc, List, [], ◌∷◌, ◌++◌, reverse, slice_get, codes, Option, Some, None}
use Rattle.my_command.specs.declared.client.ClientPacket.{ClientPacket}
use Rattle.my_command.specs.declared.client.ClientPacket.TheVariants as packets
use Rattle.my_flags.specs.declared.flags.CapabilityFlags.{CapabilityFlags}
use Rattle.my_command.specs.Client.Packet.{client_bytes as packet_bytes}
use Rattle.my_auth.specs.declared.chain.AuthStand.{AuthStand}
use Rattle.my_auth.specs.Chain.{first_stand}
use Rattle.my_auth.specs.Plugins.{challenge_plugin}
use Rattle.my_grammar.specs.declared.account.Account.{Account}
use Rattle.my_grammar.specs.declared.login.Login.{Login}
use Rattle.my_grammar.specs.declared.spot.Terms.{Terms}
use Rattle.my_grammar.specs.Account.{change_to}
use Rattle.my_grammar.specs.Prepares.{Unanswered}
use Rattle.my_grammar.specs.Sets.{ByText, ByStatement, NoSets}
use Rattle.my_grammar.specs.Talk.{Talk, Start, Queried, Preparing, Asked, Changing, Silent}
use Rattle.my_params.specs.LongData.{ahead_of}
use Rattle.my_params.specs.Parameters.{body_of}
use Rattle.my_handshake.specs.declared.version.ServerVersion.{ServerVersion}
use Rattle.my_reading.specs.declared.call.Call.{Call}
use Rattle.my_reading.specs.declared.call.Call.TheVariants.{Connect, Query, Prepare, Execute, CloseStmt, Ping, Reset, Quit}
use Rattle.my_reading.specs.declared.facts.Facts.{Facts}
use Rattle.my_reading.specs.declared.call.CallKind.{CallKind}
use Rattle.my_reading.specs.declared.call.CallKind.TheVariants as kinds
use Rattle.my_reading.specs.Executions.{Values, Fitting, Unfitting, values_for}
use Rattle.my_reading.specs.Statements.{Statements, known_in, query_of}
use Rattle.my_reading.specs.Versions.{can_reset}

-- the exchange of a query
abbrev pub queried : Terms → List ℕ → Talk
queried terms text = Queried terms (packet_bytes (packets.Query text)) (NoSets ByText)

-- The execution of a statement with these values: parts of long values go ahead of it.
abbrev pub execution : Terms → Statements → ℕ → Values → Option Talk
execution terms st id (Fitting values) =
    Some (Queried terms (body_of id values) (NoSets (ByStatement (ahead_of id values) (known_in st id))))
execution terms st id (Unfitting e) = None

-- the exchange in which a statement is closed
abbrev pub closing : Terms → ℕ → Talk
closing terms id = Silent terms (packet_bytes (packets.CloseStatement id))

-- the packet of a call that sends one which one OK or ERR answers
abbrev pub simple_packet : Call → Option ClientPacket
simple_packet Ping = Some packets.Ping
simple_packet Reset = Some packets.ResetConnection
simple_packet _ = None

abbrev pub simple : Terms → Option ClientPacket → Option Talk
simple terms None = None
simple terms (Some packet) = Some (Asked terms (packet_bytes packet))

-- The exchange of the command of a call that sends one, between client and server that keep to these terms, where these statements are known.
abbrev pub command_of : Terms → Statements → Call → Option Talk
command_of terms st (Query text) = Some (queried terms text)
command_of terms st (Prepare text) = Some (Preparing terms (packet_bytes (packets.Prepare (query_of text))) Unanswered)
command_of terms st (Execute statement params) = execution terms st statement.inner.id (values_for statement params)
command_of terms st (CloseStmt id) = Some (closing terms id)
command_of terms st Quit = Some (Silent terms (packet_bytes packets.Quit))
command_of terms st call = simple terms (simple_packet call)

-- The packet by which the server's session is renewed, where these are the capabilities of both sides, the server said this of itself, and
-- the options in force have this account: the session is reset, or gets the user of the account.
abbrev pub renewal_packet : Login → CapabilityFlags → Facts → Account → Bool → ClientPacket
renewal_packet login kept f account true = packets.ResetConnection
renewal_packet login kept f account false = packets.ChangeUser (change_to login kept f.version f.caching f.nonce account)

-- the chain of a change of user begins with an answer to the last nonce
abbrev pub change_stand : Login → Facts → AuthStand
change_stand login f = first_stand login.rules (challenge_plugin f.caching)

-- and its exchange, between client and server that keep to these terms
abbrev pub renewal : Login → Terms → Facts → Account → Bool → Talk
renewal login terms f account true = Asked terms (packet_bytes (renewal_packet login terms.kept f account true))
renewal login terms f account false =
    Changing terms account.password (change_stand login f) (packet_bytes (renewal_packet login terms.kept f account false)) []

-- A pool has the session reset where the server can; each other renewal is a change of user.
abbrev pub renews_by_reset : CallKind → ServerVersion → Bool
renews_by_reset kinds.ResetForPool v = can_reset v
renews_by_reset c v = false

-- what the server is asked for: the settings that the options leave open
abbrev pub settings_text : Option ℕ → Option ℕ → Option (List ℕ)
settings_text None None = Some (codes "SELECT @@max_allowed_packet,@@wait_timeout")
settings_text None (Some wait) = Some (codes "SELECT @@max_allowed_packet")
settings_text (Some limit) None = Some (codes "SELECT @@wait_timeout")
settings_text (Some limit) (Some wait) = None

abbrev pub at_most_one : Option (List ℕ) → List (List ℕ)
at_most_one None = []
at_most_one (Some text) = text ∷ []

-- the queries that set a session of the server up, in the order in which they are sent: from the last text to the first
abbrev pub setup_texts : Login → List (List ℕ)
setup_texts login = reverse login.setup

-- The queries that set a connection up once the login is settled, in the order in which they are sent: the settings are asked for, and
-- then each of the two lists is sent from its last text to its first.
abbrev pub arranging_texts : Login → List (List ℕ)
arranging_texts login = at_most_one (settings_text login.packet_limit login.wait_timeout) ++ (reverse login.init ++ setup_texts login)

abbrev pub arranging : Terms → Option (List ℕ) → Option Talk
arranging terms None = None
arranging terms (Some text) = Some (queried terms text)

-- the exchange that connecting begins after n others: the login, and after it each of these queries
abbrev pub connecting : Login → Terms → ℕ → Option Talk
connecting login terms zero = Some (Start login)
connecting login terms (suc n) = arranging terms (slice_get (arranging_texts login) n)

-- The exchange that a call begins, if it begins one: connecting begins several, and n of them came before. Those of a batch are told by
-- the parts of the call, which have the parameters of each, and so are the queries that follow a reset, of which this is the first command,
-- those of a transaction, and the renewal of a session.
abbrev pub opening : Login → Terms → Statements → Call → ℕ → Option Talk
opening login terms st Connect n = connecting login terms n
opening login terms st call n = command_of terms st call
