-- The packet by which a server greets.
-- MySQL internals, "Connection Phase Packets": Protocol::HandshakeV10; MariaDB, "Connecting": Initial Handshake Packet,
-- whose last four reserved bytes are its further capabilities.
use Rattle.std.specs.Prelude.{◌≡◌, ℕ, ◌+◌, ◌*◌, ◌-◌, max, IsTrue, List, ◌∷◌, ◌++◌, take, Option, Some, None, ◌==◌, if◌then◌else◌}
use Rattle.std.specs.List.{before_first}
use Rattle.my_frame.specs.Numbers.{IsBeforeZero, IsBytes, IsNumber, IsText0, bytes_at, head_at, number_at, text0_at, ◌>>=◌}
use Rattle.my_flags.specs.Sets.{contains}
use Rattle.my_flags.specs.declared.flags.CapabilityFlags.{CapabilityFlags}
use Rattle.my_handshake.specs.declared.greeting.TheConstants.{NEEDED_CAPABILITIES}
use Rattle.my_handshake.specs.declared.greeting.Greeting.{Greeting}
use Rattle.my_handshake.specs.declared.greeting.Settings.{Settings}

-- The needed capabilities are offered.
abbrev pub OffersNeeded : CapabilityFlags → Type 0
OffersNeeded capabilities = IsTrue (contains capabilities NEEDED_CAPABILITIES)

-- The payload begins with a version, a number and the first part of a nonce.
pub record IsFirst (payload version : List ℕ) (id : ℕ) (first rest : List ℕ) : Type 0 where
  pub after_protocol : List ℕ
  pub after_version : List ℕ
  pub after_id : List ℕ
  pub after_first : List ℕ
  pub protocol : payload ≡ 10 ∷ after_protocol
  pub version_is : IsText0 after_protocol version after_version
  pub id_is : IsNumber 4 after_version id after_id
  pub first_is : IsBytes 8 after_id first after_first
  pub filler : after_first ≡ 0 ∷ rest

-- Then these settings follow: the capabilities in two halves, charset and status between them, and six reserved bytes.
pub record IsSettings (bytes : List ℕ) (settings : Settings) (rest : List ℕ) : Type 0 where
  pub low : ℕ
  pub charset : ℕ
  pub high : ℕ
  pub reserved : List ℕ
  pub after_low : List ℕ
  pub after_charset : List ℕ
  pub after_status : List ℕ
  pub after_high : List ℕ
  pub after_length : List ℕ
  pub after_reserved : List ℕ
  pub low_is : IsNumber 2 bytes low after_low
  pub charset_is : IsNumber 1 after_low charset after_charset
  pub status : IsNumber 2 after_charset settings.status.0 after_status
  pub high_is : IsNumber 2 after_status high after_high
  pub nonce_length : IsNumber 1 after_high settings.nonce_length after_length
  pub reserved_is : IsBytes 6 after_length reserved after_reserved
  pub extended : IsNumber 4 after_reserved settings.extended.0 rest
  pub capabilities : settings.capabilities.0 ≡ low + 65536 * high

-- The payload is this greeting. The second part of the nonce has at least 13 bytes, of which the first 12 are used; the
-- plugin's name may lack its zero.
pub record IsGreeting (payload : List ℕ) (greeting : Greeting) : Type 0 where
  pub first : List ℕ
  pub second : List ℕ
  pub settings : Settings
  pub after_first : List ℕ
  pub after_settings : List ℕ
  pub after_second : List ℕ
  pub begins : IsFirst payload greeting.version greeting.id first after_first
  pub set : IsSettings after_first settings after_settings
  pub second_is : IsBytes (max (settings.nonce_length - 8) 13) after_settings second after_second
  pub plugin : IsBeforeZero after_second greeting.plugin
  pub nonce : greeting.nonce ≡ first ++ take 12 second
  pub capabilities : greeting.capabilities ≡ settings.capabilities
  pub needed : OffersNeeded greeting.capabilities
  pub status : greeting.status ≡ settings.status
  pub extended : greeting.extended ≡ settings.extended

-- the same as functions that read
abbrev pub first_at : List ℕ → Option ((List ℕ × ℕ × List ℕ) × List ℕ)
first_at payload = do
  after_protocol ← head_at 10 payload
  version ← text0_at after_protocol
  id ← number_at 4 version.1
  first ← bytes_at 8 id.1
  rest ← head_at 0 first.1
  Some ((version.0, id.0, first.0), rest)

unfoldable pub settings_at : List ℕ → Option (Settings × List ℕ)
settings_at bytes = do
  low ← number_at 2 bytes
  charset ← number_at 1 low.1
  status ← number_at 2 charset.1
  high ← number_at 2 status.1
  nonce_length ← number_at 1 high.1
  reserved ← bytes_at 6 nonce_length.1
  extended ← number_at 4 reserved.1
  Some (
    record {
      capabilities = record { 0 = low.0 + 65536 * high.0 };
      status = record { 0 = status.0 };
      nonce_length = nonce_length.0;
      extended = record { 0 = extended.0 };
    },
    extended.1,
  )

abbrev pub second_at : ℕ → List ℕ → Option (List ℕ × List ℕ)
second_at nonce_length bytes = do
  second ← bytes_at (max (nonce_length - 8) 13) bytes
  Some (take 12 second.0, before_first (λ b. b == 0) second.1)

abbrev pub greeting_from : List ℕ × ℕ × List ℕ → Settings → List ℕ × List ℕ → Greeting
greeting_from begun settings ended = record {
  version = begun.0;
  id = begun.1;
  nonce = begun.2 ++ ended.0;
  capabilities = settings.capabilities;
  status = settings.status;
  plugin = ended.1;
  extended = settings.extended;
}

abbrev pub greeting_at : List ℕ → Option Greeting
greeting_at payload = do
  begun ← first_at payload
  settings ← settings_at begun.1
  ended ← second_at settings.0.nonce_length settings.1
  if contains settings.0.capabilities NEEDED_CAPABILITIES then Some (greeting_from begun.0 settings.0 ended) else None
