-- How the packets are written by which a client logs in.
-- MySQL internals, "Connection Phase Packets": HandshakeResponse41; "Utility Commands": COM_CHANGE_USER; MariaDB,
-- "Connecting": Handshake Response Packet, whose last four filler bytes are the client's further capabilities.
use Rattle.std.specs.Prelude.{ℕ, List, [], ◌++◌, replicate, Option, Some, None, if◌then◌else◌}
use Rattle.my_frame.specs.Writing.{le_bytes, short_bytes, text0_bytes}
use Rattle.my_flags.specs.Sets.{connects_with_db, sends_connect_attrs}
use Rattle.my_handshake.specs.Attributes.{attributes_bytes}
use Rattle.my_handshake.specs.declared.attributes.Attribute.{Attribute}
use Rattle.my_handshake.specs.declared.login.HandshakeResponse.{HandshakeResponse}
use Rattle.my_handshake.specs.declared.login.ChangeUser.{ChangeUser}

-- the numbers of a response, with 19 zero bytes
abbrev pub settings_bytes : HandshakeResponse → List ℕ
settings_bytes r =
    le_bytes 4 r.capabilities.0 ++ le_bytes 4 r.max_packet ++ le_bytes 1 r.charset ++ replicate 19 0
    ++ le_bytes 4 r.extended.0

-- who logs in, and the response to the nonce
abbrev pub names_bytes : List ℕ → List ℕ → List ℕ
names_bytes user scramble = text0_bytes user ++ short_bytes scramble

-- the database where the login names one, the plugin, and the attributes where the login carries them
abbrev pub kept_bytes : HandshakeResponse → List ℕ
kept_bytes r =
    (if connects_with_db r.capabilities then text0_bytes r.database else []) ++ text0_bytes r.plugin
    ++ (if sends_connect_attrs r.capabilities then attributes_bytes r.attributes else [])

-- The client's response to the server's greeting.
abbrev pub response_bytes : HandshakeResponse → List ℕ
response_bytes r = settings_bytes r ++ names_bytes r.user r.scramble ++ kept_bytes r

abbrev pub maybe_attributes : Option (List Attribute) → List ℕ
maybe_attributes None = []
maybe_attributes (Some pairs) = attributes_bytes pairs

-- A new login on an open connection.
abbrev pub change_user_bytes : ChangeUser → List ℕ
change_user_bytes c =
    le_bytes 1 0x11 ++ names_bytes c.user c.scramble ++ text0_bytes c.database ++ le_bytes 2 c.charset
    ++ text0_bytes c.plugin ++ maybe_attributes c.attributes
