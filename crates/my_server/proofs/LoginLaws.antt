-- A login, as a relation and as what is read.
use Rattle.std.proofs.Common.{◌≡◌, ℕ, Bool, true, false, List, Option, Some, None, refl, sym, ap, subst, IfSome}
use Rattle.std.specs.Option.{option_map}
use Rattle.my_flags.specs.Sets.{connects_with_db, contains, sends_connect_attrs}
use Rattle.my_frame.specs.Numbers.{IsBytes, IsText, IsText0, bytes_at, number_at, text_at, text0_at}
use Rattle.my_frame.proofs.NumberLaws.{bind_then, passed, bytes_found, bytes_again, number_found, number_again, text_found, text_again, text0_found, text0_again}
use Rattle.my_server.specs.declared.login.ClientLogin.{ClientLogin}
use Rattle.my_server.specs.declared.login.TheConstants.{LOGIN_CAPABILITIES}
use Rattle.my_server.specs.ClientLogin.{IsLogin, IsShort, HasText, HasText0, LoginParts, after_fixed, after_parts, after_text, after_text0, flags_of, login_at, named_at, names_plugin, parts_of, short_at}

short_found : (bytes text rest : List ℕ) → short_at bytes ≡ Some (text, rest) → IsShort bytes text rest
short_found bytes text rest e =
    bind_then (number_at 1 bytes) _ (text, rest) e (λ a ea na.
    record { len = a.0; after_len = a.1; len_is = number_found 1 bytes a.0 a.1 ea; text_is = bytes_found a.0 a.1 text rest na })

short_again : (bytes text rest : List ℕ) → IsShort bytes text rest → short_at bytes ≡ Some (text, rest)
short_again bytes text rest w = rw (number_again 1 bytes w.len w.after_len w.len_is) (bytes_again w.len w.after_len text rest w.text_is)

text0_after : (present : Bool) (bytes rest : List ℕ) → after_text0 present bytes ≡ Some rest → HasText0 present bytes rest
text0_after true bytes rest e =
    bind_then (text0_at bytes) _ rest e (λ a ea na.
    let same : a.1 ≡ rest = cc in
    (a.0, subst (λ r. IsText0 bytes a.0 r) same (text0_found bytes a.0 a.1 ea)))
text0_after false bytes rest e = cc

text0_there : (present : Bool) (bytes rest : List ℕ) → HasText0 present bytes rest → after_text0 present bytes ≡ Some rest
text0_there true bytes rest w = rw (text0_again bytes w.0 rest w.1) refl
text0_there false bytes rest w = ap Some w

text_after : (present : Bool) (bytes rest : List ℕ) → after_text present bytes ≡ Some rest → HasText present bytes rest
text_after true bytes rest e =
    bind_then (text_at bytes) _ rest e (λ a ea na.
    let same : a.1 ≡ rest = cc in
    (a.0, subst (λ r. IsText bytes a.0 r) same (text_found bytes a.0 a.1 ea)))
text_after false bytes rest e = cc

text_there : (present : Bool) (bytes rest : List ℕ) → HasText present bytes rest → after_text present bytes ≡ Some rest
text_there true bytes rest w = rw (text_again bytes w.0 rest w.1) refl
text_there false bytes rest w = ap Some w

pub login_found : (payload : List ℕ) (login : LoginParts) → login_at payload ≡ Some login → IsLogin payload login
unfolding login_at named_at
login_found payload login e =
    bind_then (number_at 4 payload) _ login e (λ a ea na.
    bind_then (after_fixed a.1) _ login na (λ s es ns.
    bind_then (number_at 4 a.1) _ s es (λ b eb nb.
    bind_then (number_at 1 b.1) _ s nb (λ c ec nc.
    bind_then (bytes_at 23 c.1) _ s nc (λ d ed nd.
    let same : d.1 ≡ s = cc in
    bind_then (text0_at s) _ login ns (λ f ef nf.
    bind_then (short_at f.1) _ login nf (λ g eg ng.
    bind_then (after_parts (flags_of a.0) g.1) _ login ng (λ h eh nh.
    bind_then (after_text0 (connects_with_db (flags_of a.0)) g.1) _ h eh (λ i ei ni.
    bind_then (after_text0 (names_plugin (flags_of a.0)) i) _ h ni (λ j ej nj.
    let fields : LoginParts = record { capabilities = flags_of a.0; user = f.0; scramble = g.0 } in
    let p = passed (contains (flags_of a.0) LOGIN_CAPABILITIES) fields login nh in
    subst (λ o. IsLogin payload o) {x = fields} p.1 (record {
      max_packet = b.0;
      charset = c.0;
      reserved = d.0;
      after_capabilities = a.1;
      after_max_packet = b.1;
      after_charset = c.1;
      after_reserved = s;
      after_user = f.1;
      after_scramble = g.1;
      after_database = i;
      after_plugin = j;
      rest = h;
      capabilities = number_found 4 payload a.0 a.1 ea;
      max_packet_is = number_found 4 a.1 b.0 b.1 eb;
      charset_is = number_found 1 b.1 c.0 c.1 ec;
      reserved_is = subst (λ r. IsBytes 23 c.1 d.0 r) same (bytes_found 23 c.1 d.0 d.1 ed);
      user = text0_found s f.0 f.1 ef;
      scramble = short_found f.1 g.0 g.1 eg;
      database = text0_after (connects_with_db (flags_of a.0)) g.1 i ei;
      plugin = text0_after (names_plugin (flags_of a.0)) i j ej;
      attributes = text_after (sends_connect_attrs (flags_of a.0)) j h nj;
      needed = p.0;
    })))))))))))

pub login_again : (payload : List ℕ) (login : LoginParts) → IsLogin payload login → login_at payload ≡ Some login
unfolding login_at named_at
login_again payload login w =
    rw (number_again 4 payload login.capabilities.0 w.after_capabilities w.capabilities, number_again 4 w.after_capabilities w.max_packet w.after_max_packet w.max_packet_is, number_again 1 w.after_max_packet w.charset w.after_charset w.charset_is, bytes_again 23 w.after_charset w.reserved w.after_reserved w.reserved_is, text0_again w.after_reserved login.user w.after_user w.user, short_again w.after_user login.scramble w.after_scramble w.scramble, text0_there (connects_with_db login.capabilities) w.after_scramble w.after_database w.database, text0_there (names_plugin login.capabilities) w.after_database w.after_plugin w.plugin, text_there (sends_connect_attrs login.capabilities) w.after_plugin w.rest w.attributes, w.needed) refl

pub found_is : (payload : List ℕ) (o : Option ClientLogin) → option_map parts_of o ≡ login_at payload → IfSome o (λ login. IsLogin payload (parts_of login))
found_is payload None e = tt
found_is payload (Some login) e = login_found payload (parts_of login) (sym e)
