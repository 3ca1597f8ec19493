-- The answer to a server's greeting. MySQL client/server protocol, "Connection Phase Packets": Protocol::HandshakeResponse41.
use Rattle.std.specs.Prelude.{ℕ, ◌==◌, ◌&&◌, ◌||◌, nat_le, nat_lt, List, [], Option, Some, None, unwrap_or, if◌then◌else◌}
use Rattle.my_flags.specs.Sets.{intersection}
use Rattle.my_handshake.specs.declared.greeting.Greeting.{Greeting}
use Rattle.my_handshake.specs.declared.version.ServerVersion.{ServerVersion}
use Rattle.my_handshake.specs.declared.login.HandshakeResponse.{HandshakeResponse}
use Rattle.my_handshake.specs.Greeting.{greeting_at}
use Rattle.my_handshake.specs.Version.{version_of}
use Rattle.my_handshake.specs.Login.{response_bytes}
use Rattle.my_grammar.specs.declared.login.Login.{Login}
use Rattle.my_auth.specs.Plugins.{challenge_plugin, plugin_name}
use Rattle.my_grammar.specs.Kinds.{is_caching}
use Rattle.my_grammar.specs.Scramble.{password_answer}

-- utf8mb4_general_ci, which servers know from version 5.5.3 on; else utf8_general_ci
abbrev pub charset_of : ServerVersion → ℕ
charset_of v =
    if nat_lt 5 v.major || ((v.major == 5) && nat_lt 5 v.minor) || ((v.major == 5) && (v.minor == 5) && nat_le 3 v.patch) then 45 else 33

-- what the client answers to this greeting
abbrev pub response_to : Login → Greeting → HandshakeResponse
response_to login g = record {
  capabilities = intersection login.capabilities g.capabilities;
  max_packet = login.max_packet;
  charset = charset_of (version_of g.version);
  extended = record { 0 = 0 };
  user = unwrap_or login.user [];
  scramble = password_answer (is_caching g.plugin) login.password g.nonce;
  database = unwrap_or login.database [];
  plugin = plugin_name (challenge_plugin (is_caching g.plugin));
  attributes = login.attributes;
}

abbrev pub response_by : Login → Option Greeting → List ℕ
response_by login None = []
response_by login (Some g) = response_bytes (response_to login g)

-- The payload that the client sends after a greeting.
unfoldable pub response : Login → List ℕ → List ℕ
response login p = response_by login (greeting_at p)
