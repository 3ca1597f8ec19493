-- The packets of a login or a change of user after the client's first: what the server asks for, and what the client answers.
-- MySQL client/server protocol, "Connection Phase": Authentication Method Mismatch, "Authentication Methods".
use Rattle.std.specs.Prelude.{ℕ, List, [], ◌∷◌, Option, Some, None, Bool, true, false, ◌||◌, ◌==◌, if◌then◌else◌}
use Rattle.my_handshake.specs.declared.switch.SwitchRequest.{SwitchRequest}
use Rattle.my_handshake.specs.declared.switch.MoreData.{MoreData}
use Rattle.my_handshake.specs.SwitchRequest.{switch_at, more_data_at}
use Rattle.my_auth.specs.declared.plugin.AuthPlugin.{AuthPlugin}
use Rattle.my_auth.specs.declared.plugin.AuthPlugin.TheVariants.{Native, Caching, Clear, Old}
use Rattle.my_auth.specs.declared.chain.AuthRules.{AuthRules}
use Rattle.my_auth.specs.declared.chain.AuthStand.{AuthStand}
use Rattle.my_auth.specs.declared.chain.AuthAsk.{AuthAsk}
use Rattle.my_auth.specs.declared.chain.AuthAsk.TheVariants.{Switch, Whole, Wait}
use Rattle.my_auth.specs.declared.chain.AuthMove.{AuthMove}
use Rattle.my_auth.specs.declared.chain.AuthMove.TheVariants.{Over, Ask, Refuse}
use Rattle.my_auth.specs.declared.chain.AuthRefusal.{AuthRefusal}
use Rattle.my_auth.specs.declared.chain.AuthRefusal.TheVariants.{UnknownAuthPlugin, CleartextPluginDisabled, MysqlOldPasswordDisabled, FullAuthRefused, UnexpectedPacket, Malformed}
use Rattle.my_auth.specs.Plugins.{plugin_named}
use Rattle.my_auth.specs.Scrambles.{answer}

-- a chain that begins with an answer by this plugin
abbrev pub first_stand : AuthRules → AuthPlugin → AuthStand
first_stand rules plugin = record { rules = rules; plugin = plugin; switched = false; decided = false }

-- what a server is told that asks for this plugin
abbrev pub asked_for : Option AuthPlugin → AuthRules → AuthMove
asked_for None rules = Refuse UnknownAuthPlugin
asked_for (Some Native) rules = Ask (Switch Native)
asked_for (Some Caching) rules = Ask (Switch Caching)
asked_for (Some Clear) rules = if rules.cleartext then Ask (Switch Clear) else Refuse CleartextPluginDisabled
asked_for (Some Old) rules = if rules.secure then Refuse MysqlOldPasswordDisabled else Refuse UnknownAuthPlugin

abbrev pub switched_by : Option SwitchRequest → AuthRules → AuthMove
switched_by None rules = Refuse Malformed
switched_by (Some s) rules = asked_for (plugin_named s.plugin) rules

-- a server switches once
abbrev pub switches : AuthStand → List ℕ → AuthMove
switches stand payload = if stand.switched then Refuse UnexpectedPacket else switched_by (switch_at payload) stand.rules

-- The server has no hash of the password and wants it as it is: it gets that over a link that stays on this machine.
abbrev pub wants_whole : AuthRules → AuthMove
wants_whole rules = if rules.local then Ask Whole else Refuse FullAuthRefused

-- data of the plugin `caching_sha2_password`: 3 says that the hash was right, 4 asks for the password
abbrev pub caching_by : Option MoreData → AuthRules → AuthMove
caching_by None rules = Refuse UnexpectedPacket
caching_by (Some more) rules =
    if more.kind == 3 then Ask Wait else if more.kind == 4 then wants_whole rules else Refuse UnexpectedPacket

abbrev pub is_caching : AuthPlugin → Bool
is_caching Caching = true
is_caching plugin = false

-- data of a plugin, which `caching_sha2_password` alone has
abbrev pub adds : AuthStand → List ℕ → AuthMove
adds stand payload = if is_caching stand.plugin then caching_by (more_data_at payload) stand.rules else Refuse UnexpectedPacket

-- by the first byte: 0x00 and 0xFF begin an OK and an ERR; nothing else follows once the chain is decided
abbrev pub move_by : ℕ → AuthStand → List ℕ → AuthMove
move_by head stand payload =
    if (head == 0x00) || (head == 0xFF) then Over
    else if stand.decided then Refuse UnexpectedPacket
    else if head == 0xFE then switches stand payload
    else if head == 0x01 then adds stand payload
    else Refuse UnexpectedPacket

-- what the server's next payload is, where the chain stands there
abbrev pub move_at : AuthStand → List ℕ → AuthMove
move_at stand [] = Refuse Malformed
move_at stand (head ∷ rest) = move_by head stand (head ∷ rest)

-- where the chain stands after the server asked for this
abbrev pub after_ask : AuthStand → AuthAsk → AuthStand
after_ask stand (Switch plugin) = record { rules = stand.rules; plugin = plugin; switched = true; decided = false }
after_ask stand Whole = record { rules = stand.rules; plugin = stand.plugin; switched = stand.switched; decided = true }
after_ask stand Wait = record { rules = stand.rules; plugin = stand.plugin; switched = stand.switched; decided = true }

-- the name of the plugin that a switch asks for
abbrev pub name_of : Option SwitchRequest → List ℕ
name_of None = []
name_of (Some s) = s.plugin

abbrev pub plugin_in : List ℕ → List ℕ
plugin_in payload = name_of (switch_at payload)

-- its nonce
abbrev pub nonce_of : Option SwitchRequest → List ℕ
nonce_of None = []
nonce_of (Some s) = s.nonce

abbrev pub nonce_in : List ℕ → List ℕ
nonce_in payload = nonce_of (switch_at payload)

-- what the client answers, whose password this is, where a payload asks for this
abbrev pub reply_to : List ℕ → AuthAsk → List ℕ → Option (List ℕ)
reply_to password (Switch plugin) payload = Some (answer plugin password (nonce_in payload))
reply_to password Whole payload = Some (answer Clear password [])
reply_to password Wait payload = None
