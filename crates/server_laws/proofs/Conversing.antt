-- What a client reads of a server's bytes.
use Rattle.std.proofs.Common.{◌≡◌, ◌≢◌, inl, inr, ℕ, ◌≤◌, List, [], ◌∷◌, ◌++◌, length, map, Bool, true, false, Some, refl, sym, ap, subst, ◌∙◌}
use Rattle.std.specs.List.{AllByRecursion, flat_map}
use Rattle.std.proofs.lemmas.List.Concat.{flat_map-cons}
use Rattle.my_flags.specs.declared.flags.CapabilityFlags.{CapabilityFlags}
use Rattle.my_flags.specs.Sets.{deprecates_eof}
use Rattle.my_frame.specs.Chunks.{chunks, number_after_payload}
use Rattle.my_grammar.specs.declared.login.Login.{Login}
use Rattle.my_grammar.specs.declared.spot.Terms.{Terms}
use Rattle.my_grammar.specs.Cut.{Trailing, cut, onto}
use Rattle.my_grammar.specs.Response.{response}
use Rattle.my_grammar.specs.Talk.{Talk, Start, turns, server_bytes}
use Rattle.my_grammar.proofs.Sound.{over_is_cut}
use Rattle.my_server.specs.declared.command.CommandKind.TheVariants as commands
use Rattle.my_server.specs.declared.phase.Phase.{Phase}
use Rattle.my_server.specs.declared.phase.Phase.TheVariants.{Login as AtLogin, Commands, Closed}
use Rattle.my_server.specs.declared.phase.CloseCause.TheVariants.{Quit, Denied, BadPacket, Codec}
use Rattle.my_server.specs.declared.script.ServerScript.{ServerScript}
use Rattle.my_server.specs.ClientLogin.{LoginParts, login_at}
use Rattle.my_server.specs.Command.{command_kind}
use Rattle.server_laws.specs.Conversation.{EndEach, IsClient, IsHeard, IsTyped, exchange_of, client_terms}
use Rattle.my_server.specs.Faults.{is_served}
use Rattle.my_server.specs.History.{History, IsJudged, IsNew, Stands, StandsAt, answer_bytes, kept_after, kept_by, verdict, verdict_bytes}
use Rattle.my_server.specs.Machine.{Served, all_chunks, answer_payloads, greeting_payload, kept_of}
use Rattle.server_laws.proofs.Exchanges.{exchange}
use Rattle.server_laws.proofs.Opening.{both_deprecate, opening}
use Rattle.server_laws.proofs.PayloadKinds.{PacketLaws}

-- what the exchanges of commands are cut into
record AreEnded (script : ServerScript) (terms : Terms) (kept : CapabilityFlags) (cs : List (List ℕ)) : Type 0 where
  pub talks : List Talk
  pub cut_is : cut (map (exchange_of terms) cs) (flat_map (answer_bytes script kept) cs) ≡ record { talks = talks; rest = Trailing [] }
  pub ends : EndEach script terms cs talks

exchanges : (laws : PacketLaws) (script : ServerScript) (terms : Terms) (kept : CapabilityFlags) (cs : List (List ℕ)) → deprecates_eof terms.kept ≡ true → deprecates_eof kept ≡ true → is_served script ≡ true → IsTyped script
    → AllByRecursion (λ c. command_kind c ≢ commands.Quit) cs → AllByRecursion (λ c. AllByRecursion (λ p. length p ≤ terms.limit) (answer_payloads script true c)) cs → AreEnded script terms kept cs
exchanges laws script terms kept [] d k served typed none within = record { talks = []; cut_is = refl; ends = tt }
exchanges laws script terms kept (c ∷ cs) d k served typed none within =
    let w = exchange laws script terms c d served typed none.0 within.0 in
    let t = w.0 in
    let rest = exchanges laws script terms kept cs d k served typed none.1 within.1 in
    let f = answer_bytes script kept in
    let first : f c ≡ server_bytes (turns t) = ap (λ (b : Bool). all_chunks (answer_payloads script b c) (number_after_payload c 0)) k ∙ sym w.1.bytes in
    record {
      talks = t ∷ rest.talks;
      cut_is = ap (λ x. cut (map (exchange_of terms) (c ∷ cs)) x) (flat_map-cons f c cs) ∙ ap (λ x. cut (map (exchange_of terms) (c ∷ cs)) (x ++ flat_map f cs)) first ∙ ap (λ x. cut (x ∷ map (exchange_of terms) cs) (server_bytes (turns t) ++ flat_map f cs)) (sym w.1.origin_is) ∙ over_is_cut t (map (exchange_of terms) cs) (flat_map f cs) w.1.fits w.1.over ∙ ap (onto t) rest.cut_is;
      ends = (w.1.ends, rest.ends);
    }

-- The login that was read.
record WasRead (h : History) (p : List ℕ) : Type 0 where
  pub user : LoginParts
  pub user_is : login_at p ≡ Some user

was_judged : (h : History) (p : List ℕ) (admitted : Bool) (kept : CapabilityFlags) → h.login ≡ Some p → IsJudged h admitted kept → WasRead h p
was_judged h p admitted kept e w =
    let a = w.payload_is in
    let same : w.payload ≡ p = cc in
    record { user = w.login; user_is = subst (λ x. login_at x ≡ Some w.login) same w.login_is }

not_new : (h : History) (p : List ℕ) → h.login ≡ Some p → IsNew h → ⊥
not_new h p e w = let a = w.login in cc

was_read : (phase : Phase) (h : History) (unread p : List ℕ) → h.login ≡ Some p → StandsAt phase h unread → WasRead h p
was_read AtLogin h unread p e w = absurd (not_new h p e w)
was_read (Commands kept) h unread p e w = was_judged h p true kept e w
was_read (Closed Quit) h unread p e w = was_judged h p true w.kept e w.judged
was_read (Closed Denied) h unread p e w = was_judged h p false w.kept e w.judged
was_read (Closed (BadPacket place)) h unread p e w = absurd (not_new h p e w.is_new)
was_read (Closed (Codec fault)) h unread p e w = elim w [ inl a ↦ absurd (not_new h p e a.0) | inr b ↦ was_judged h p true b.0 e b.1 ]

pub heard : (laws : PacketLaws) (login : Login) (limit : ℕ) (s : Served) (h : History) → Stands s h → IsTyped h.script → IsClient login limit h → IsHeard login limit s h
heard laws login limit s h st typed client =
    let script = h.script in
    let p = response login (greeting_payload script) in
    let read = was_read s.phase h s.unread p client.answered st.place in
    let user = read.user in
    let terms = client_terms login limit in
    let kept = kept_after h.login in
    let kept_is : kept ≡ kept_of user = ap kept_after client.answered ∙ ap kept_by read.user_is in
    let k : deprecates_eof kept ≡ true = ap deprecates_eof kept_is ∙ both_deprecate laws script login user st.served typed read.user_is client.deprecates in
    let begun = opening laws script login user st.served typed in
    let t = begun.0 in
    let rest = exchanges laws script terms kept h.commands client.deprecates k st.served typed st.none_quits client.within in
    let ts = map (exchange_of terms) h.commands in
    let answers = flat_map (answer_bytes script kept) h.commands in
    let said : verdict_bytes script h.login ≡ chunks (verdict script (Some user)) (number_after_payload p 1) = ap (verdict_bytes script) client.answered ∙ ap (λ u. chunks (verdict script u) (number_after_payload p 1)) read.user_is in
    let bytes : h.sent ++ s.owed ≡ server_bytes (turns t) ++ answers = st.said ∙ ap (λ x. (chunks (greeting_payload script) 0 ++ x) ++ answers) said ∙ ap (λ x. x ++ answers) (sym begun.1.bytes) in
    record {
      user = user;
      user_is = read.user_is;
      opening = t;
      ended = rest.talks;
      cut_is = ap (λ x. cut (Start login ∷ ts) x) bytes ∙ ap (λ x. cut (x ∷ ts) (server_bytes (turns t) ++ answers)) (sym begun.1.origin_is) ∙ over_is_cut t ts answers begun.1.fits begun.1.over ∙ ap (onto t) rest.cut_is;
      opens = begun.1.opens;
      ends = rest.ends;
    }
