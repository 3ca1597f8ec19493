-- How a client logs in. MySQL client/server protocol, "Connection Phase Packets": Protocol::HandshakeResponse41, with
-- SECURE_CONNECTION and without PLUGIN_AUTH_LENENC_CLIENT_DATA.
use Rattle.std.specs.Prelude.{◌≡◌, ℕ, ◌^◌, ◌<◌, ◌==◌, Bool, true, false, IsTrue, List, length, Option, Some, None, if◌then◌else◌}
use Rattle.std.specs.List.{before_first, flat_map}
use Rattle.my_flags.specs.declared.flags.CapabilityFlags.{CapabilityFlags}
use Rattle.my_flags.specs.declared.flags.TheConstants.CapabilityFlags.{CLIENT_PLUGIN_AUTH}
use Rattle.my_flags.specs.Sets.{connects_with_db, contains, sends_connect_attrs}
use Rattle.my_frame.specs.Numbers.{IsBytes, IsNumber, IsText, IsText0, bytes_at, number_at, text_at, text0_at, ◌>>=◌}
use Rattle.my_handshake.specs.declared.login.HandshakeResponse.{HandshakeResponse}
use Rattle.my_handshake.specs.Attributes.{pair_bytes}
use Rattle.my_server.specs.declared.login.ClientLogin.{ClientLogin}
use Rattle.my_server.specs.declared.login.TheConstants.{LOGIN_CAPABILITIES}

-- the capabilities, the user's name and the answer to the nonce
pub record LoginParts : Type 0 where
  pub capabilities : CapabilityFlags
  pub user : List ℕ
  pub scramble : List ℕ

abbrev pub parts_of : ClientLogin → LoginParts
parts_of login = record { capabilities = login.capabilities; user = login.user.now; scramble = login.scramble.now }

-- The bytes begin with a text after one byte with its length.
pub record IsShort (bytes text rest : List ℕ) : Type 0 where
  pub len : ℕ
  pub after_len : List ℕ
  pub len_is : IsNumber 1 bytes len after_len
  pub text_is : IsBytes len after_len text rest

-- Where the part is there, a text that ends at a zero comes first, or a text with its length.
abbrev pub HasText0 : Bool → List ℕ → List ℕ → Type 0
HasText0 true bytes rest = (text : List ℕ) × IsText0 bytes text rest
HasText0 false bytes rest = bytes ≡ rest

abbrev pub HasText : Bool → List ℕ → List ℕ → Type 0
HasText true bytes rest = (text : List ℕ) × IsText bytes text rest
HasText false bytes rest = bytes ≡ rest

-- a plugin's name is sent
abbrev pub names_plugin : CapabilityFlags → Bool
names_plugin capabilities = contains capabilities CLIENT_PLUGIN_AUTH

-- The payload begins with this login; a database, a plugin's name and attributes follow as its capabilities say.
pub record IsLogin (payload : List ℕ) (login : LoginParts) : Type 0 where
  pub max_packet : ℕ
  pub charset : ℕ
  pub reserved : List ℕ
  pub after_capabilities : List ℕ
  pub after_max_packet : List ℕ
  pub after_charset : List ℕ
  pub after_reserved : List ℕ
  pub after_user : List ℕ
  pub after_scramble : List ℕ
  pub after_database : List ℕ
  pub after_plugin : List ℕ
  pub rest : List ℕ
  pub capabilities : IsNumber 4 payload login.capabilities.0 after_capabilities
  pub max_packet_is : IsNumber 4 after_capabilities max_packet after_max_packet
  pub charset_is : IsNumber 1 after_max_packet charset after_charset
  pub reserved_is : IsBytes 23 after_charset reserved after_reserved
  pub user : IsText0 after_reserved login.user after_user
  pub scramble : IsShort after_user login.scramble after_scramble
  pub database : HasText0 (connects_with_db login.capabilities) after_scramble after_database
  pub plugin : HasText0 (names_plugin login.capabilities) after_database after_plugin
  pub attributes : HasText (sends_connect_attrs login.capabilities) after_plugin rest
  pub needed : IsTrue (contains login.capabilities LOGIN_CAPABILITIES)

-- the same as functions that read
abbrev pub short_at : List ℕ → Option (List ℕ × List ℕ)
short_at bytes = do
  len ← number_at 1 bytes
  bytes_at len.0 len.1

abbrev pub after_text0 : Bool → List ℕ → Option (List ℕ)
after_text0 present bytes = if present then (text0_at bytes >>= λ text. Some text.1) else Some bytes

abbrev pub after_text : Bool → List ℕ → Option (List ℕ)
after_text present bytes = if present then (text_at bytes >>= λ text. Some text.1) else Some bytes

-- the bytes after a database, a plugin's name and attributes, where the capabilities say that they are there
abbrev pub after_parts : CapabilityFlags → List ℕ → Option (List ℕ)
after_parts capabilities bytes = do
  after_database ← after_text0 (connects_with_db capabilities) bytes
  after_plugin ← after_text0 (names_plugin capabilities) after_database
  after_text (sends_connect_attrs capabilities) after_plugin

abbrev pub flags_of : ℕ → CapabilityFlags
flags_of bits = record { 0 = bits }

abbrev pub login_from : CapabilityFlags → List ℕ → List ℕ → Option LoginParts
login_from capabilities user scramble =
    if contains capabilities LOGIN_CAPABILITIES
    then Some (record { capabilities = capabilities; user = user; scramble = scramble })
    else None

-- the bytes after the greatest packet's length, a charset and 23 reserved bytes
abbrev pub after_fixed : List ℕ → Option (List ℕ)
after_fixed bytes = do
  max_packet ← number_at 4 bytes
  charset ← number_at 1 max_packet.1
  reserved ← bytes_at 23 charset.1
  Some reserved.1

-- the rest of a login of these capabilities: the user's name, the answer to the nonce, and the parts after it
unfoldable pub named_at : CapabilityFlags → List ℕ → Option LoginParts
named_at capabilities bytes = do
  user ← text0_at bytes
  scramble ← short_at user.1
  rest ← after_parts capabilities scramble.1
  login_from capabilities user.0 scramble.0

unfoldable pub login_at : List ℕ → Option LoginParts
login_at payload = do
  bits ← number_at 4 payload
  rest ← after_fixed bits.1
  named_at (flags_of bits.0) rest

-- Which responses to a greeting are read as logins: numbers and lengths fit their bytes, and the needed capabilities are there, with
-- that of naming a plugin.
pub record IsSentResponse (r : HandshakeResponse) : Type 0 where
  pub capabilities : r.capabilities.0 < 2 ^ 32
  pub needed : IsTrue (contains r.capabilities LOGIN_CAPABILITIES)
  pub plugin : names_plugin r.capabilities ≡ true
  pub max_packet : r.max_packet < 2 ^ 32
  pub charset : r.charset < 2 ^ 8
  pub scramble : length r.scramble < 2 ^ 8
  pub attributes : length (flat_map pair_bytes r.attributes) < 2 ^ 64

-- what a server reads of a response; its user is cut before a zero
abbrev pub login_of : HandshakeResponse → LoginParts
login_of r = record { capabilities = r.capabilities; user = before_first (λ b. b == 0) r.user; scramble = r.scramble }
