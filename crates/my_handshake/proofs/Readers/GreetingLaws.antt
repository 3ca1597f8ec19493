-- The greeting, as a relation and as what is read.
use Rattle.std.proofs.Common.{◌≡◌, ℕ, ◌+◌, ◌*◌, ◌-◌, max, List, ◌++◌, take, eqb, Some, refl, sym, ap, subst}
use Rattle.my_flags.specs.Sets.{contains}
use Rattle.my_handshake.specs.declared.greeting.TheConstants.{NEEDED_CAPABILITIES}
use Rattle.std.specs.List.{before_first}
use Rattle.my_handshake.specs.declared.greeting.Greeting.{Greeting}
use Rattle.my_handshake.specs.declared.greeting.Settings.{Settings}
use Rattle.my_frame.specs.Numbers.{bytes_at, head_at, number_at, text0_at}
use Rattle.my_handshake.specs.Greeting.{IsFirst, IsSettings, IsGreeting, first_at, settings_at, second_at, greeting_from, greeting_at}
use Rattle.my_frame.proofs.NumberLaws.{bind_then, passed, same_pair, head_found, head_again, before_found, before_again, bytes_found, bytes_again, number_found, number_again, text0_found, text0_again}

first_found : (payload : List ℕ) (x : (List ℕ × ℕ × List ℕ) × List ℕ) → first_at payload ≡ Some x → IsFirst payload x.0.0 x.0.1 x.0.2 x.1
first_found payload x e =
    bind_then (head_at 10 payload) _ x e (λ a ea na.
    bind_then (text0_at a) _ x na (λ b eb nb.
    bind_then (number_at 4 b.1) _ x nb (λ c ec nc.
    bind_then (bytes_at 8 c.1) _ x nc (λ d ed nd.
    bind_then (head_at 0 d.1) _ x nd (λ f ef nf.
    let y : (List ℕ × ℕ × List ℕ) × List ℕ = ((b.0, c.0, d.0), f) in
    let same : y ≡ x = cc in
    subst (λ (z : (List ℕ × ℕ × List ℕ) × List ℕ). IsFirst payload z.0.0 z.0.1 z.0.2 z.1) {x = y} same (record {
      after_protocol = a;
      after_version = b.1;
      after_id = c.1;
      after_first = d.1;
      protocol = head_found 10 payload a ea;
      version_is = text0_found a b.0 b.1 eb;
      id_is = number_found 4 b.1 c.0 c.1 ec;
      first_is = bytes_found 8 c.1 d.0 d.1 ed;
      filler = head_found 0 d.1 f ef;
    }))))))

first_again : (payload version : List ℕ) (id : ℕ) (first rest : List ℕ) → IsFirst payload version id first rest → first_at payload ≡ Some ((version, id, first), rest)
first_again payload version id first rest w =
    rw (head_again 10 payload w.after_protocol w.protocol, text0_again w.after_protocol version w.after_version w.version_is, number_again 4 w.after_version id w.after_id w.id_is, bytes_again 8 w.after_id first w.after_first w.first_is, head_again 0 w.after_first rest w.filler) refl

settings_found : (bytes : List ℕ) (settings : Settings) (rest : List ℕ) → settings_at bytes ≡ Some (settings, rest) → IsSettings bytes settings rest
unfolding settings_at
settings_found bytes settings rest e =
    bind_then (number_at 2 bytes) _ (settings, rest) e (λ a ea na.
    bind_then (number_at 1 a.1) _ (settings, rest) na (λ b eb nb.
    bind_then (number_at 2 b.1) _ (settings, rest) nb (λ c ec nc.
    bind_then (number_at 2 c.1) _ (settings, rest) nc (λ d ed nd.
    bind_then (number_at 1 d.1) _ (settings, rest) nd (λ f ef nf.
    bind_then (bytes_at 6 f.1) _ (settings, rest) nf (λ g eg ng.
    bind_then (number_at 4 g.1) _ (settings, rest) ng (λ h eh nh.
    let fields : Settings = record {
      capabilities = record { 0 = a.0 + 65536 * d.0 };
      status = record { 0 = c.0 };
      nonce_length = f.0;
      extended = record { 0 = h.0 };
    } in
    let s = same_pair (fields, h.1) (settings, rest) nh in
    subst (λ o. IsSettings bytes o rest) {x = fields} s.0 (subst (λ r. IsSettings bytes fields r) {x = h.1} s.1 (record {
      low = a.0;
      charset = b.0;
      high = d.0;
      reserved = g.0;
      after_low = a.1;
      after_charset = b.1;
      after_status = c.1;
      after_high = d.1;
      after_length = f.1;
      after_reserved = g.1;
      low_is = number_found 2 bytes a.0 a.1 ea;
      charset_is = number_found 1 a.1 b.0 b.1 eb;
      status = number_found 2 b.1 c.0 c.1 ec;
      high_is = number_found 2 c.1 d.0 d.1 ed;
      nonce_length = number_found 1 d.1 f.0 f.1 ef;
      reserved_is = bytes_found 6 f.1 g.0 g.1 eg;
      extended = number_found 4 g.1 h.0 h.1 eh;
      capabilities = refl;
    })))))))))

settings_again : (bytes : List ℕ) (settings : Settings) (rest : List ℕ) → IsSettings bytes settings rest → settings_at bytes ≡ Some (settings, rest)
unfolding settings_at
settings_again bytes settings rest w =
    rw (number_again 2 bytes w.low w.after_low w.low_is, number_again 1 w.after_low w.charset w.after_charset w.charset_is, number_again 2 w.after_charset settings.status.0 w.after_status w.status, number_again 2 w.after_status w.high w.after_high w.high_is, number_again 1 w.after_high settings.nonce_length w.after_length w.nonce_length, bytes_again 6 w.after_length w.reserved w.after_reserved w.reserved_is, number_again 4 w.after_reserved settings.extended.0 rest w.extended, ← w.capabilities) refl

pub greeting_found : (payload : List ℕ) (greeting : Greeting) → greeting_at payload ≡ Some greeting → IsGreeting payload greeting
greeting_found payload greeting e =
    bind_then (first_at payload) _ greeting e (λ a ea na.
    bind_then (settings_at a.1) _ greeting na (λ b eb nb.
    bind_then (second_at b.0.nonce_length b.1) _ greeting nb (λ c ec nc.
    bind_then (bytes_at (max (b.0.nonce_length - 8) 13) b.1) _ c ec (λ d ed nd.
    let fields : Greeting = greeting_from a.0 b.0 c in
    let p = passed (contains b.0.capabilities NEEDED_CAPABILITIES) fields greeting nc in
    let ended : (take 12 d.0, before_first (λ x. eqb x 0) d.1) ≡ c = cc in
    subst (λ o. IsGreeting payload o) {x = fields} p.1 (record {
      first = a.0.2;
      second = d.0;
      settings = b.0;
      after_first = a.1;
      after_settings = b.1;
      after_second = d.1;
      begins = first_found payload a ea;
      set = settings_found a.1 b.0 b.1 eb;
      second_is = bytes_found (max (b.0.nonce_length - 8) 13) b.1 d.0 d.1 ed;
      plugin = before_found d.1 c.1 (ap (λ x. x.1) ended);
      nonce = ap (λ x. a.0.2 ++ x) (sym (ap (λ x. x.0) ended));
      capabilities = refl;
      needed = p.0;
      status = refl;
      extended = refl;
    })))))

pub greeting_again : (payload : List ℕ) (greeting : Greeting) → IsGreeting payload greeting → greeting_at payload ≡ Some greeting
greeting_again payload greeting w =
    rw (first_again payload greeting.version greeting.id w.first w.after_first w.begins, settings_again w.after_first w.settings w.after_settings w.set, bytes_again (max (w.settings.nonce_length - 8) 13) w.after_settings w.second w.after_second w.second_is, before_again w.after_second greeting.plugin w.plugin, ← w.capabilities, w.needed, ← w.nonce, ← w.status, ← w.extended) refl
