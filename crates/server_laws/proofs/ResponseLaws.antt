-- A response that is written is read as a login.
use Rattle.std.proofs.Common.{◌≡◌, ℕ, ◌<◌, ◌^◌, List, [], ◌∷◌, ◌++◌, length, Bool, true, false, cond, Some, refl, sym, ap, subst, ◌∙◌, arith, length-append, append_assoc}
use Rattle.std.specs.Prelude.{replicate, ◌==◌}
use Rattle.std.proofs.lemmas.List.{append-nil}
use Rattle.std.specs.List.{before_first, flat_map}
use Rattle.my_flags.specs.Sets.{connects_with_db, sends_connect_attrs}
use Rattle.my_frame.specs.Numbers.{IsNumber, IsText0, number_at, text_at}
use Rattle.my_frame.specs.Writing.{le_bytes, short_bytes, text_bytes, text0_bytes}
use Rattle.my_frame.proofs.NumberLaws.{number_found, text_found, text0_found}
use Rattle.my_frame.proofs.WritingLaws.{length-le_bytes, number_read_back, text_read_back, text0_read_back}
use Rattle.my_handshake.specs.declared.login.HandshakeResponse.{HandshakeResponse}
use Rattle.my_handshake.specs.Attributes.{attributes_bytes, pair_bytes}
use Rattle.my_handshake.specs.Login.{response_bytes}
use Rattle.my_server.specs.ClientLogin.{HasText, HasText0, IsSentResponse, IsShort, login_at, login_of}
use Rattle.my_server.proofs.LoginLaws.{login_again}

number_there : (count n : ℕ) (bytes rest : List ℕ) → n < 256 ^ count → bytes ≡ le_bytes count n ++ rest → IsNumber count bytes n rest
number_there count n bytes rest small e = number_found count bytes n rest (ap (λ x. number_at count x) e ∙ number_read_back count n rest small)

short_there : (text rest : List ℕ) → length text < 256 → IsShort (short_bytes text ++ rest) text rest
unfolding short_bytes
short_there text rest small = record {
  len = length text;
  after_len = text ++ rest;
  len_is = record { digits = length text ∷ []; value = omega arith; stands = record { count_is = refl; spelled = refl } };
  text_is = record { count_is = refl; spelled = refl };
}

text0_there : (text rest : List ℕ) → IsText0 (text0_bytes text ++ rest) (before_first (λ b. b == 0) text) rest
text0_there text rest = text0_found (text0_bytes text ++ rest) (before_first (λ b. b == 0) text) rest (text0_read_back text rest)

database_there : (present : Bool) (text rest : List ℕ) → HasText0 present (cond present (text0_bytes text) [] ++ rest) rest
database_there true text rest = (before_first (λ b. b == 0) text, text0_there text rest)
database_there false text rest = refl

attributes_there : (present : Bool) (text : List ℕ) → length text < 2 ^ 64 → HasText present (cond present (text_bytes text) []) []
attributes_there true text small =
    let e : text_at (text_bytes text) ≡ Some (text, []) = ap (λ x. text_at x) (sym (append-nil (text_bytes text))) ∙ text_read_back text [] small in
    (text, text_found (text_bytes text) text [] e)
attributes_there false text small = refl

pub response_read_back : (r : HandshakeResponse) → IsSentResponse r → login_at (response_bytes r) ≡ Some (login_of r)
response_read_back r w = login_again (response_bytes r) (login_of r) (record {
  max_packet = r.max_packet;
  charset = r.charset;
  reserved = filler;
  after_capabilities = le_bytes 4 r.max_packet ++ after_max_packet;
  after_max_packet = after_max_packet;
  after_charset = filler ++ after_filler;
  after_reserved = after_filler;
  after_user = short_bytes r.scramble ++ after_scramble;
  after_scramble = after_scramble;
  after_database = after_database;
  after_plugin = attributes;
  rest = [];
  capabilities = number_there 4 r.capabilities.0 (response_bytes r) (le_bytes 4 r.max_packet ++ after_max_packet) w.capabilities (simp append_assoc);
  max_packet_is = number_there 4 r.max_packet (le_bytes 4 r.max_packet ++ after_max_packet) after_max_packet w.max_packet refl;
  charset_is = number_there 1 r.charset after_max_packet (filler ++ after_filler) w.charset refl;
  reserved_is = record { count_is = simp (length-append, length-le_bytes); spelled = refl };
  user = text0_there r.user (short_bytes r.scramble ++ after_scramble);
  scramble = short_there r.scramble after_scramble w.scramble;
  database = database_there (connects_with_db r.capabilities) r.database after_database;
  plugin = subst (λ (b : Bool). HasText0 b after_database attributes) (sym w.plugin) (before_first (λ b. b == 0) r.plugin, text0_there r.plugin attributes);
  attributes = attributes_there (sends_connect_attrs r.capabilities) (flat_map pair_bytes r.attributes) w.attributes;
  needed = w.needed;
})
  where
    attributes : List ℕ
    attributes = cond (sends_connect_attrs r.capabilities) (attributes_bytes r.attributes) []

    after_database : List ℕ
    after_database = text0_bytes r.plugin ++ attributes

    after_scramble : List ℕ
    after_scramble = cond (connects_with_db r.capabilities) (text0_bytes r.database) [] ++ after_database

    after_filler : List ℕ
    after_filler = text0_bytes r.user ++ (short_bytes r.scramble ++ after_scramble)

    filler : List ℕ
    filler = replicate 19 0 ++ le_bytes 4 r.extended.0

    after_max_packet : List ℕ
    after_max_packet = le_bytes 1 r.charset ++ (filler ++ after_filler)
