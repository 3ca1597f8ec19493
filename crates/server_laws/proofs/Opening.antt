-- The opening of a connection.
use Rattle.std.proofs.Common.{◌≡◌, ◌≢◌, ℕ, ◌+◌, ◌≤◌, ◌==◌, ◌||◌, not, List, [], ◌∷◌, ◌++◌, length, Bool, true, false, cond, nat_le, lit<, lit≤, codes, bit_and, inl, Option, Some, None, MatchBool, refl, sym, ap, subst, ◌∙◌, arith, length-append, append_assoc}
use Rattle.std.specs.List.{AllByRecursion, list_any}
use Rattle.std.proofs.lemmas.Bool.Decides.{nat_tests}
use Rattle.std.proofs.lemmas.List.Elements.{All-from_recursion}
use Rattle.std.proofs.lemmas.List.{length-take, length-drop}
use Rattle.std.specs.Prelude.{replicate}
use Rattle.std.proofs.lemmas.Nat.{and_assoc, and_le_r}
use Rattle.my_flags.specs.declared.flags.TheConstants.CapabilityFlags.{CLIENT_DEPRECATE_EOF}
use Rattle.my_flags.specs.Sets.{deprecates_eof, intersection}
use Rattle.my_frame.specs.Chunks.{chunks, number_after_payload}
use Rattle.my_frame.specs.Numbers.{number_at}
use Rattle.my_frame.specs.Writing.{le_bytes, len_bytes, text0_bytes}
use Rattle.my_frame.proofs.ChunkLaws.{number_after_payload-short}
use Rattle.my_frame.proofs.NumberLaws.{before_again, number_again, same_pair}
use Rattle.my_frame.proofs.WritingLaws.{length-le_bytes, number_read_back}
use Rattle.my_handshake.specs.declared.login.HandshakeResponse.{HandshakeResponse}
use Rattle.my_handshake.specs.Greeting.{greeting_at}
use Rattle.my_handshake.specs.Login.{response_bytes, names_bytes, kept_bytes}
use Rattle.my_auth.specs.declared.chain.AuthStand.{AuthStand}
use Rattle.my_reply.specs.ErrPacket.{err_at}
use Rattle.my_reply.specs.Sent.{HasNoZero, IsSentGreeting}
use Rattle.my_reply.specs.Server.{fitted}
use Rattle.my_grammar.specs.declared.login.Login.{Login}
use Rattle.my_grammar.specs.declared.spot.Kind.{Kind}
use Rattle.my_grammar.specs.declared.spot.Kind.TheVariants as kinds
use Rattle.my_grammar.specs.Contexts.{is_bad}
use Rattle.my_grammar.specs.Cut.{is_over}
use Rattle.my_grammar.specs.Kinds.{auth_kind, failed_kind, greeting_kind, greets_kind, or_else, single_kind}
use Rattle.my_grammar.specs.Response.{response, response_by, response_to}
use Rattle.my_grammar.specs.Talk.{Talk, Start, Greeted, Client, Server, Fits, answers, client_turns, greeted_stand, turns, server_bytes, origin}
use Rattle.my_server.specs.declared.answer.TheConstants.{DONE}
use Rattle.my_server.specs.declared.greet.TheConstants.{OFFERED}
use Rattle.my_server.specs.declared.script.ServerScript.{ServerScript}
use Rattle.my_server.specs.ClientLogin.{LoginParts, login_at}
use Rattle.server_laws.specs.Conversation.{IsTyped, OpensBadly, OpensWell, offered}
use Rattle.my_server.specs.Faults.{is_served, is_version}
use Rattle.my_server.specs.History.{verdict}
use Rattle.my_server.specs.Machine.{admits, denial, fine_payload, greeting_of, greeting_payload, kept_of, refusal_payload}
use Rattle.server_laws.proofs.Exchanges.{fine_back, single_fine, typed_denied}
use Rattle.my_server.proofs.LoginLaws.{login_found}
use Rattle.server_laws.proofs.PayloadKinds.{PacketLaws, single_err}
use Rattle.my_server.proofs.Sendable.{both, served_parts}

none_zero : (text : List ℕ) → list_any (λ b. b == 0) text ≡ false → AllByRecursion (λ b. b ≢ 0) text
none_zero [] e = tt
none_zero (b ∷ text) e = by_test (none_zero text) (b == 0) refl e
  where
    by_test : (list_any (λ b. b == 0) text ≡ false → AllByRecursion (λ b. b ≢ 0) text) → (t : Bool) → (b == 0) ≡ t → (t || list_any (λ b. b == 0) text) ≡ false → AllByRecursion (λ b. b ≢ 0) (b ∷ text)
    by_test rest true is e = absurd cc
    by_test rest false is e = let ne : b ≢ 0 = grind (arith, nat_tests) in (ne, rest e)

pub no_zero : (text : List ℕ) → list_any (λ b. b == 0) text ≡ false → HasNoZero text
no_zero text e = before_again text text (record { no_zero = All-from_recursion (λ b. b ≢ 0) text (none_zero text e); ends = inl refl })

not_true : (b : Bool) → not b ≡ true → b ≡ false
not_true true e = absurd cc
not_true false e = refl

version_parts : (version : List ℕ) → is_version version ≡ true → (length version ≤ 255) × HasNoZero version
version_parts version e =
    let w = both (nat_le (length version) 255) (not (list_any (λ b. b == 0) version)) e in
    let short = w.0 in
    (grind (arith, nat_tests), no_zero version (not_true _ w.1))

pub sent_greeting : (script : ServerScript) → is_served script ≡ true → IsTyped script → IsSentGreeting (greeting_of script)
sent_greeting script served typed = record {
  version = (version_parts script.version (served_parts script served).0).1;
  id = typed.id;
  nonce = typed.nonce;
  capabilities = lit< tt;
  needed = refl;
  status = lit< tt;
  plugin = no_zero (codes "mysql_native_password") refl;
  extended = lit< tt;
}

greeting_back : (laws : PacketLaws) (script : ServerScript) → is_served script ≡ true → IsTyped script → greeting_at (greeting_payload script) ≡ Some (greeting_of script)
greeting_back laws script served typed = laws.greeting (greeting_of script) (sent_greeting script served typed)

pub greets : (laws : PacketLaws) (script : ServerScript) → is_served script ≡ true → IsTyped script → greeting_kind (greeting_payload script) ≡ kinds.Greets offered
greets laws script served typed =
    ap (λ g. or_else (greets_kind g) (failed_kind (err_at true (greeting_payload script)))) (greeting_back laws script served typed)

length-text0 : (text : List ℕ) → length (text0_bytes text) ≤ length text + 1
unfolding text0_bytes
length-text0 text = simp (length-append, length-take) (omega arith)

length-fitted : (nonce : List ℕ) → length (fitted nonce) ≤ 20
unfolding fitted
length-fitted nonce = simp length-take (omega arith)

pub greeting_is_short : (script : ServerScript) → is_served script ≡ true → length (greeting_payload script) ≤ 400
greeting_is_short script served =
    let short = (version_parts script.version (served_parts script served).0).0 in
    let a = length-text0 script.version in
    let b = length-text0 (codes "mysql_native_password") in
    let d = length-fitted script.nonce in
    simp (length-append, length-le_bytes, length-take, length-drop) (omega arith)

-- the login has the sequence id 1
pub login_number : (script : ServerScript) → is_served script ≡ true → number_after_payload (greeting_payload script) 0 ≡ 1
login_number script served =
    let short = greeting_is_short script served in
    number_after_payload-short (greeting_payload script) 0 (omega arith)

-- the capabilities that a login of the grammar's client names
response_begins : (r : HandshakeResponse) → (rest : List ℕ) × (response_bytes r ≡ le_bytes 4 r.capabilities.0 ++ rest)
response_begins r =
    let a = le_bytes 4 r.capabilities.0 in
    let b = le_bytes 4 r.max_packet in
    let c = le_bytes 1 r.charset in
    let e = le_bytes 4 r.extended.0 in
    ((b ++ (c ++ (replicate 19 0 ++ (e ++ (names_bytes r.user r.scramble ++ kept_bytes r))))), simp append_assoc)

response_is : (laws : PacketLaws) (script : ServerScript) (login : Login) → is_served script ≡ true → IsTyped script → response login (greeting_payload script) ≡ response_bytes (response_to login (greeting_of script))
unfolding response
response_is laws script login served typed = ap (λ g. response_by login g) (greeting_back laws script served typed)

user_capabilities : (laws : PacketLaws) (script : ServerScript) (login : Login) (user : LoginParts) → is_served script ≡ true → IsTyped script → login_at (response login (greeting_payload script)) ≡ Some user
    → user.capabilities.0 ≡ bit_and login.capabilities.0 OFFERED.0
user_capabilities laws script login user served typed e =
    let p = response login (greeting_payload script) in
    let r = response_to login (greeting_of script) in
    let n = r.capabilities.0 in
    let w = login_found p user e in
    let below : n ≤ OFFERED.0 = and_le_r login.capabilities.0 OFFERED.0 in
    let begins = response_begins r in
    let read = number_read_back 4 n begins.0 (omega arith) in
    let there = number_again 4 p user.capabilities.0 w.after_capabilities w.capabilities in
    let again : number_at 4 p ≡ Some (n, begins.0) = ap (λ x. number_at 4 x) (response_is laws script login served typed ∙ begins.1) ∙ read in
    (same_pair (user.capabilities.0, w.after_capabilities) (n, begins.0) (sym there ∙ again)).0

-- both sides keep to what both deprecate
pub both_deprecate : (laws : PacketLaws) (script : ServerScript) (login : Login) (user : LoginParts) → is_served script ≡ true → IsTyped script → login_at (response login (greeting_payload script)) ≡ Some user
    → deprecates_eof (intersection login.capabilities OFFERED) ≡ true → deprecates_eof (kept_of user) ≡ true
both_deprecate laws script login user served typed e d =
    let bits = CLIENT_DEPRECATE_EOF.0 in
    let x = bit_and login.capabilities.0 OFFERED.0 in
    let same : bit_and (bit_and user.capabilities.0 OFFERED.0) bits ≡ bit_and x bits = ap (λ n. bit_and (bit_and n OFFERED.0) bits) (user_capabilities laws script login user served typed e) ∙ and_assoc bits x OFFERED.0 in
    ap (λ n. n == bits) same ∙ d

-- The opening of an admitted login, or of one that is not.
pub record IsOpening (script : ServerScript) (login : Login) (user : LoginParts) (t : Talk) : Type 0 where
  pub fits : Fits t
  pub over : is_over t ≡ true
  pub origin_is : origin t ≡ Start login
  pub bytes : server_bytes (turns t) ≡ chunks (greeting_payload script) 0 ++ chunks (verdict script (Some user)) (number_after_payload (response login (greeting_payload script)) 1)
  pub opens : MatchBool (admits script user) (OpensWell script login t) (OpensBadly script login t)

opened : (laws : PacketLaws) (script : ServerScript) (login : Login) (last : List ℕ) (k : Kind) → is_served script ≡ true → IsTyped script → auth_kind (greeted_stand login offered) last ≡ k → is_bad k ≡ false
    → answers login.password k last ≡ None → length last ≤ 400
    → let t = Greeted login (greeting_payload script) offered (record { kind = k; payload = last } ∷ []) in Fits t × (server_bytes (turns t) ≡ chunks (greeting_payload script) 0 ++ chunks last (number_after_payload (response login (greeting_payload script)) 1))
opened laws script login last k served typed is good silent short =
    let p = greeting_payload script in
    let small = greeting_is_short script served in (
      record { kinds = (greets laws script served typed, (tt, is, good)); within = (omega arith, (omega arith, tt)) },
      ap (λ (o : Option (List ℕ)). server_bytes (client_turns o ++ Server last ∷ Client (response login p) ∷ Server p ∷ [])) silent ∙ ap (λ n. chunks p 0 ++ chunks last (number_after_payload (response login p) n)) (login_number script served),
    )

-- an OK and an ERR end a chain wherever it stands
fine_ends : (stand : AuthStand) → auth_kind stand fine_payload ≡ single_kind fine_payload
unfolding le_bytes
fine_ends stand = refl

denied_ends : (stand : AuthStand) → auth_kind stand (refusal_payload denial) ≡ single_kind (refusal_payload denial)
unfolding le_bytes
denied_ends stand = refl

fine_is_short : length fine_payload ≤ 400
unfolding le_bytes len_bytes
fine_is_short = lit≤ tt

denied_is_short : length (refusal_payload denial) ≤ 400
unfolding le_bytes
denied_is_short = lit≤ tt

pub opening : (laws : PacketLaws) (script : ServerScript) (login : Login) (user : LoginParts) → is_served script ≡ true → IsTyped script → (t : Talk) × IsOpening script login user t
opening laws script login user served typed = by_verdict (admits script user) refl
  where
    by_verdict : (b : Bool) → admits script user ≡ b → (t : Talk) × IsOpening script login user t
    by_verdict true e =
        let w = opened laws script login fine_payload (kinds.Good DONE) served typed (fine_ends (greeted_stand login offered) ∙ single_fine laws) refl refl fine_is_short in
        let t = Greeted login (greeting_payload script) offered (record { kind = kinds.Good DONE; payload = fine_payload } ∷ []) in
        let n = number_after_payload (response login (greeting_payload script)) 1 in
        let says : OpensWell script login t = record { payload = fine_payload; talk = refl; packet = fine_back laws } in (
          t,
          record {
            fits = w.0;
            over = refl;
            origin_is = refl;
            bytes = w.1 ∙ ap (λ (b : Bool). chunks (greeting_payload script) 0 ++ chunks (cond b fine_payload (refusal_payload denial)) n) (sym e);
            opens = subst (λ (b : Bool). MatchBool b (OpensWell script login t) (OpensBadly script login t)) (sym e) says;
          },
        )
    by_verdict false e =
        let last = refusal_payload denial in
        let w = opened laws script login last kinds.Failed served typed (denied_ends (greeted_stand login offered) ∙ single_err laws denial typed_denied) refl refl denied_is_short in
        let t = Greeted login (greeting_payload script) offered (record { kind = kinds.Failed; payload = last } ∷ []) in
        let n = number_after_payload (response login (greeting_payload script)) 1 in
        let says : OpensBadly script login t = record { payload = last; talk = refl; packet = laws.err denial typed_denied } in (
          t,
          record {
            fits = w.0;
            over = refl;
            origin_is = refl;
            bytes = w.1 ∙ ap (λ (b : Bool). chunks (greeting_payload script) 0 ++ chunks (cond b fine_payload last) n) (sym e);
            opens = subst (λ (b : Bool). MatchBool b (OpensWell script login t) (OpensBadly script login t)) (sym e) says;
          },
        )
