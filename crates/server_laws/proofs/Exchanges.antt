-- The exchange of each command.
use Rattle.std.proofs.Common.{◌≡◌, ◌≢◌, ℕ, ◌<◌, ◌≤◌, ◌==◌, zero, suc, get_or, List, [], ◌∷◌, ◌++◌, length, Bool, true, nat_lt, lit<, codes, Option, Some, None, refl, sym, ap, subst, ◌∙◌, arith}
use Rattle.std.specs.List.{AllByRecursion, list_all}
use Rattle.std.specs.Str.{IsAscii, bytes_eq}
use Rattle.std.proofs.lemmas.Str.{IsUtf8-from_ascii}
use Rattle.std.proofs.lemmas.Bool.Decides.{nat_tests}
use Rattle.my_flags.specs.declared.flags.StatusFlags.{StatusFlags}
use Rattle.my_flags.specs.Sets.{deprecates_eof}
use Rattle.my_frame.specs.Chunks.{number_after_payload}
use Rattle.my_reply.specs.declared.ok.OkPacket.{OkPacket}
use Rattle.my_reply.specs.declared.err.ErrPacket.{ErrPacket}
use Rattle.my_reply.specs.declared.server.ServerPacket.TheVariants as packets
use Rattle.my_reply.specs.OkPacket.{ok_at}
use Rattle.my_reply.specs.Sent.{IsSentErr, IsSentOk}
use Rattle.my_reply.specs.Server.{server_bytes as payload_of}
use Rattle.my_grammar.specs.declared.spot.Kind.TheVariants as kinds
use Rattle.my_grammar.specs.declared.spot.Spot.TheVariants as spots
use Rattle.my_grammar.specs.declared.spot.Terms.{Terms}
use Rattle.my_grammar.specs.Contexts.{more}
use Rattle.my_grammar.specs.Kinds.{single_kind}
use Rattle.my_grammar.specs.Cut.{is_idle, is_over}
use Rattle.my_grammar.specs.Sets.{Sets, ByText, NoSets, Lone, Failed, spot_in}
use Rattle.my_grammar.specs.Talk.{Talk, Asked, Replied, Queried, Fits, turns, number_of, server_bytes, origin}
use Rattle.my_server.specs.declared.answer.TheConstants.{DONE}
use Rattle.my_server.specs.declared.command.CommandKind.{CommandKind}
use Rattle.my_server.specs.declared.command.CommandKind.TheVariants as commands
use Rattle.my_server.specs.declared.script.Reply.{Reply}
use Rattle.my_server.specs.declared.script.ReplyAnswer.{ReplyAnswer}
use Rattle.my_server.specs.declared.script.ReplyAnswer.TheVariants as answers
use Rattle.my_server.specs.declared.script.ServerScript.{ServerScript}
use Rattle.my_server.specs.Answer.{ok_of, reply_payloads, sets_payloads}
use Rattle.my_server.specs.Command.{command_kind, query_text}
use Rattle.server_laws.specs.Conversation.{EndsBadly, EndsBy, EndsQuery, EndsWell, IsLoneErr, IsLoneOk, IsTyped, IsTypedAnswer, Says, SaysReply, exchange_of, exchange_by}
use Rattle.my_server.specs.Faults.{is_answer, is_reply, is_sent, is_served, is_set}
use Rattle.my_server.specs.Machine.{all_chunks, answer_payloads, command_payloads, denial, fine_payload, found_payloads, no_reply, refusal_payload, reply_for}
use Rattle.server_laws.proofs.Goodness.{all_within, sets_are_good}
use Rattle.server_laws.proofs.Hearing.{Heard, heard_one}
use Rattle.server_laws.proofs.PayloadKinds.{PacketLaws, head_err, head_ok, single_err, single_ok, typed_ok}
use Rattle.my_server.proofs.Sendable.{both, found_has, replies_are_fine, served_parts}
use Rattle.server_laws.proofs.SetHearing.{sets_are_over, sets_are_read, sets_from, sets_heard}

-- The exchange of a command, whose server's bytes are these payloads.
pub record IsExchange (script : ServerScript) (terms : Terms) (c : List ℕ) (t : Talk) : Type 0 where
  pub fits : Fits t
  pub over : is_over t ≡ true
  pub origin_is : origin t ≡ exchange_of terms c
  pub bytes : server_bytes (turns t) ≡ all_chunks (answer_payloads script true c) (number_after_payload c 0)
  pub ends : EndsBy script terms c (command_kind c) t

typed_done : IsSentOk (ok_of DONE)
typed_done = typed_ok DONE (lit< tt)

ascii_from_test : (bytes : List ℕ) → list_all (λ b. nat_lt b 128) bytes ≡ true → IsAscii bytes
ascii_from_test [] e = λ i. omega arith
ascii_from_test (b ∷ bytes) e =
    let w = both (nat_lt b 128) (list_all (λ b. nat_lt b 128) bytes) e in
    at_each w.0 (ascii_from_test bytes w.1)
  where
    at_each : nat_lt b 128 ≡ true → IsAscii bytes → (i : ℕ) → get_or (b ∷ bytes) i 0 < 128
    at_each small rest zero = grind (arith, nat_tests)
    at_each small rest (suc i) = rest i

pub typed_no_reply : IsSentErr no_reply
typed_no_reply = record { code = lit< tt; state = refl; message = IsUtf8-from_ascii (codes "no reply") (ascii_from_test (codes "no reply") refl) }

pub typed_denied : IsSentErr denial
typed_denied = record { code = lit< tt; state = refl; message = IsUtf8-from_ascii (codes "Access denied") (ascii_from_test (codes "Access denied") refl) }

pub single_fine : (laws : PacketLaws) → single_kind fine_payload ≡ kinds.Good DONE
single_fine laws = single_ok laws (ok_of DONE) typed_done

pub fine_back : (laws : PacketLaws) → ok_at fine_payload ≡ Some (ok_of DONE)
fine_back laws = laws.ok (ok_of DONE) typed_done

asked_fits : (terms : Terms) (c : List ℕ) → Fits (Asked terms c)
asked_fits terms c = record { kinds = tt; within = tt }

query_fits : (terms : Terms) (c : List ℕ) → Fits (Queried terms c (NoSets ByText))
query_fits terms c = record { kinds = tt; within = tt }

-- the answer of one payload, by what the command is
answer_is : (script : ServerScript) (c : List ℕ) (k : CommandKind) → command_kind c ≡ k → answer_payloads script true c ≡ command_payloads script true k (query_text c)
answer_is script c k e = ap (λ k. command_payloads script true k (query_text c)) e

-- what was heard of a command's exchange
from_heard : (script : ServerScript) (terms : Terms) (c : List ℕ) (t u : Talk) (ps : List (List ℕ)) → t ≡ exchange_of terms c → server_bytes (turns t) ≡ [] → number_of (turns t) ≡ number_after_payload c 0 → origin t ≡ t
    → answer_payloads script true c ≡ ps → Heard t ps u → is_over u ≡ true → EndsBy script terms c (command_kind c) u → IsExchange script terms c u
from_heard script terms c t u ps began_is none n own answers heard over ends = record {
  fits = heard.fits;
  over = over;
  origin_is = heard.origin_is ∙ own ∙ began_is;
  bytes = heard.bytes ∙ ap (λ x. x ++ all_chunks ps (number_of (turns t))) none ∙ ap (λ m. all_chunks ps m) n ∙ ap (λ x. all_chunks x (number_after_payload c 0)) (sym answers);
  ends = ends;
}

abbrev EachWithin : ℕ → List (List ℕ) → Type 0
EachWithin limit ps = AllByRecursion (λ p. length p ≤ limit) ps

-- a command that one OK or one ERR answers
well : (laws : PacketLaws) (script : ServerScript) (terms : Terms) (c : List ℕ) (k : CommandKind) → command_kind c ≡ k → Asked terms c ≡ exchange_by terms c k → command_payloads script true k (query_text c) ≡ fine_payload ∷ []
    → ((t : Talk) → EndsWell terms c t → EndsBy script terms c k t) → EachWithin terms.limit (answer_payloads script true c) → (t : Talk) × IsExchange script terms c t
well laws script terms c k e began_is fine ends within =
    let answers = answer_is script c k e ∙ fine in
    let short = subst (EachWithin terms.limit) answers within in
    let t = Asked terms c in
    let u = Replied terms c fine_payload (kinds.Good DONE) in
    let heard = heard_one t (kinds.Good DONE) fine_payload (single_fine laws) refl refl short.0 (asked_fits terms c) in
    let said = ends u (record { payload = fine_payload; talk = refl; packet = fine_back laws }) in
    (u, from_heard script terms c t u (fine_payload ∷ []) (began_is ∙ ap (exchange_by terms c) (sym e)) refl refl refl answers heard refl (subst (λ k. EndsBy script terms c k u) (sym e) said))

badly : (laws : PacketLaws) (script : ServerScript) (terms : Terms) (c : List ℕ) → command_kind c ≡ commands.Other → EachWithin terms.limit (answer_payloads script true c) → (t : Talk) × IsExchange script terms c t
badly laws script terms c e within =
    let p = refusal_payload no_reply in
    let answers = answer_is script c commands.Other e in
    let short = subst (EachWithin terms.limit) answers within in
    let t = Asked terms c in
    let u = Replied terms c p kinds.Failed in
    let heard = heard_one t kinds.Failed p (single_err laws no_reply typed_no_reply) refl refl short.0 (asked_fits terms c) in
    let said : EndsBadly terms c u = record { payload = p; talk = refl; packet = laws.err no_reply typed_no_reply } in
    (u, from_heard script terms c t u (p ∷ []) (ap (exchange_by terms c) (sym e)) refl refl refl answers heard refl (subst (λ k. EndsBy script terms c k u) (sym e) said))

-- A query's answer, heard as sets that say it.
record IsAnswered (terms : Terms) (c : List ℕ) (ps : List (List ℕ)) (SaysIt : Sets → Type 0) : Type 0 where
  pub sets : Sets
  pub heard : Heard (Queried terms c (NoSets ByText)) ps (Queried terms c sets)
  pub over : spot_in sets ≡ spots.Idle
  pub says : SaysIt sets

lone_err : (laws : PacketLaws) (terms : Terms) (c : List ℕ) (err : ErrPacket) → IsSentErr err → EachWithin terms.limit (refusal_payload err ∷ []) → IsAnswered terms c (refusal_payload err ∷ []) (IsLoneErr err)
lone_err laws terms c err typed within =
    let p = refusal_payload err in
    record {
      sets = Failed (NoSets ByText) p;
      heard = heard_one (Queried terms c (NoSets ByText)) kinds.Failed p (head_err laws err typed) refl refl within.0 (query_fits terms c);
      over = refl;
      says = record { payload = p; sets = refl; packet = laws.err err typed };
    }

same_status : (ok : OkPacket) → (ok.status.0 == DONE.0) ≡ true → ok.status ≡ DONE
same_status ok e = let same : ok.status.0 ≡ DONE.0 = grind (arith, nat_tests) in ap (λ (n : ℕ). let s : StatusFlags = record { 0 = n } in s) same

lone_ok : (laws : PacketLaws) (terms : Terms) (c : List ℕ) (ok : OkPacket) → IsSentOk ok → (ok.status.0 == DONE.0) ≡ true → EachWithin terms.limit (payload_of (packets.Fine ok) ∷ []) → IsAnswered terms c (payload_of (packets.Fine ok) ∷ []) (IsLoneOk ok)
lone_ok laws terms c ok typed done within =
    let p = payload_of (packets.Fine ok) in
    record {
      sets = Lone (NoSets ByText) p ok.status;
      heard = heard_one (Queried terms c (NoSets ByText)) (kinds.Good ok.status) p (head_ok laws ok typed) refl refl within.0 (query_fits terms c);
      over = ap more (same_status ok done);
      says = record { payload = p; sets = refl; packet = laws.ok ok typed };
    }

by_answer : (laws : PacketLaws) (terms : Terms) (c : List ℕ) (answer : ReplyAnswer) → deprecates_eof terms.kept ≡ true → is_answer answer ≡ true → list_all is_sent (reply_payloads true answer) ≡ true → IsTypedAnswer answer
    → EachWithin terms.limit (reply_payloads true answer) → IsAnswered terms c (reply_payloads true answer) (Says answer)
by_answer laws terms c (answers.Fine ok) d fine sent typed within = lone_ok laws terms c ok typed fine within
by_answer laws terms c (answers.Refuse err) d fine sent typed within = lone_err laws terms c err typed within
by_answer laws terms c (answers.Sets []) d fine sent typed within = absurd cc
by_answer laws terms c (answers.Sets (set ∷ sets)) d fine sent typed within =
    let tested = (both (nat_lt 0 (length (set ∷ sets))) (list_all is_set (set ∷ sets)) fine).1 in
    let good = sets_are_good terms.limit (set ∷ sets) tested (all_within terms.limit (sets_payloads true (set ∷ sets)) sent within) in
    record {
      sets = sets_from (NoSets ByText) (set ∷ sets);
      heard = sets_heard laws terms c (NoSets ByText) set sets d refl refl good (query_fits terms c);
      over = sets_are_over (NoSets ByText) set sets;
      says = sets_are_read laws terms.limit (set ∷ sets) good;
    }

by_reply : (laws : PacketLaws) (terms : Terms) (c : List ℕ) (reply : Reply) → deprecates_eof terms.kept ≡ true → is_reply reply ≡ true → IsTypedAnswer reply.answer
    → EachWithin terms.limit (reply_payloads true reply.answer) → IsAnswered terms c (reply_payloads true reply.answer) (Says reply.answer)
unfolding is_reply
by_reply laws terms c reply d fine typed within =
    let w = both (is_answer reply.answer) (list_all is_sent (reply_payloads true reply.answer)) fine in
    by_answer laws terms c reply.answer d w.0 w.1 typed within

by_found : (laws : PacketLaws) (script : ServerScript) (terms : Terms) (c : List ℕ) (o : Option Reply) → reply_for script.replies (query_text c) ≡ o → deprecates_eof terms.kept ≡ true → is_served script ≡ true → IsTyped script
    → EachWithin terms.limit (found_payloads true o) → IsAnswered terms c (found_payloads true o) (SaysReply o)
by_found laws script terms c None e d served typed within = lone_err laws terms c no_reply typed_no_reply within
by_found laws script terms c (Some reply) e d served typed within =
    let test : Reply → Bool = λ reply. bytes_eq reply.text (query_text c) in
    let fine = found_has (λ (reply : Reply). is_reply reply ≡ true) test script.replies reply e (replies_are_fine 0 script.replies (served_parts script served).1) in
    let numbers = found_has (λ (reply : Reply). IsTypedAnswer reply.answer) test script.replies reply e typed.replies in
    by_reply laws terms c reply d fine numbers within

queried : (laws : PacketLaws) (script : ServerScript) (terms : Terms) (c : List ℕ) → command_kind c ≡ commands.Query → deprecates_eof terms.kept ≡ true → is_served script ≡ true → IsTyped script
    → EachWithin terms.limit (answer_payloads script true c) → (t : Talk) × IsExchange script terms c t
queried laws script terms c e d served typed within =
    let o = reply_for script.replies (query_text c) in
    let answers = answer_is script c commands.Query e in
    let short = subst (EachWithin terms.limit) answers within in
    let w = by_found laws script terms c o refl d served typed short in
    let u = Queried terms c w.sets in
    let said : EndsQuery script terms c u = record { sets = w.sets; talk = refl; says = w.says } in
    (u, from_heard script terms c (Queried terms c (NoSets ByText)) u (found_payloads true o) (ap (exchange_by terms c) (sym e)) refl refl refl answers w.heard (ap is_idle w.over) (subst (λ k. EndsBy script terms c k u) (sym e) said))

pub exchange : (laws : PacketLaws) (script : ServerScript) (terms : Terms) (c : List ℕ) → deprecates_eof terms.kept ≡ true → is_served script ≡ true → IsTyped script → command_kind c ≢ commands.Quit
    → EachWithin terms.limit (answer_payloads script true c) → (t : Talk) × IsExchange script terms c t
exchange laws script terms c d served typed open_ within = by_kind (command_kind c) refl
  where
    by_kind : (k : CommandKind) → command_kind c ≡ k → (t : Talk) × IsExchange script terms c t
    by_kind commands.Quit e = absurd (open_ e)
    by_kind commands.Ping e = well laws script terms c commands.Ping e refl refl (λ t w. w) within
    by_kind commands.ResetConnection e = well laws script terms c commands.ResetConnection e refl refl (λ t w. w) within
    by_kind commands.Query e = queried laws script terms c e d served typed within
    by_kind commands.Other e = badly laws script terms c e within
