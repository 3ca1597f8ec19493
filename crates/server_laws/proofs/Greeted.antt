-- What a client reads of a server's bytes before its login was read.
use Rattle.std.proofs.Common.{◌≡◌, inl, inr, ℕ, List, [], ◌∷◌, ◌++◌, Bool, true, false, None, refl, ap, ◌∙◌, arith}
use Rattle.std.specs.List.{flat_map}
use Rattle.std.proofs.lemmas.List.{append-nil}
use Rattle.my_flags.specs.declared.flags.CapabilityFlags.{CapabilityFlags}
use Rattle.my_frame.specs.Chunks.{chunks}
use Rattle.my_frame.specs.Front.{Waiting, front_at, front_from, front_within}
use Rattle.my_grammar.specs.declared.login.Login.{Login}
use Rattle.my_grammar.specs.Cut.{Cut, Read, cut, cut_after, read_from, read_within, rest_in_front}
use Rattle.my_grammar.specs.Talk.{Talk, Start, Greeted, Fits, turns, server_bytes}
use Rattle.my_grammar.proofs.Sound.{exchange_is_cut}
use Rattle.my_server.specs.declared.phase.Phase.{Phase}
use Rattle.my_server.specs.declared.phase.Phase.TheVariants.{Login as AtLogin, Commands, Closed}
use Rattle.my_server.specs.declared.phase.CloseCause.TheVariants.{Quit, Denied, BadPacket, Codec}
use Rattle.my_server.specs.declared.script.ServerScript.{ServerScript}
use Rattle.server_laws.specs.Conversation.{IsGreeted, IsTyped, offered}
use Rattle.my_server.specs.Faults.{is_served}
use Rattle.my_server.specs.History.{History, IsJudged, IsNew, Stands, StandsAt, answer_bytes, kept_after, verdict_bytes}
use Rattle.my_server.specs.Machine.{Served, greeting_payload}
use Rattle.server_laws.proofs.Opening.{greeting_is_short, greets}
use Rattle.server_laws.proofs.PayloadKinds.{PacketLaws}

not_judged : (h : History) (admitted : Bool) (kept : CapabilityFlags) → h.login ≡ None → IsJudged h admitted kept → ⊥
not_judged h admitted kept e w = let a = w.payload_is in cc

-- where no login was read, no command was
still_new : (phase : Phase) (h : History) (unread : List ℕ) → h.login ≡ None → StandsAt phase h unread → IsNew h
still_new AtLogin h unread e w = w
still_new (Commands kept) h unread e w = absurd (not_judged h true kept e w)
still_new (Closed Quit) h unread e w = absurd (not_judged h true w.kept e w.judged)
still_new (Closed Denied) h unread e w = absurd (not_judged h false w.kept e w.judged)
still_new (Closed (BadPacket place)) h unread e w = w.is_new
still_new (Closed (Codec fault)) h unread e w = elim w [ inl a ↦ a.0 | inr b ↦ absurd (not_judged h true b.0 e b.1) ]

waits_on_none : (n limit : ℕ) → front_at n limit [] ≡ Waiting
unfolding front_from front_within
waits_on_none n limit = refl

reads_none : (t : Talk) → read_from t [] ≡ record { talk = t; rest = [] }
unfolding read_from read_within
reads_none t = refl

-- the greeting is an exchange's beginning
greeting_fits : (laws : PacketLaws) (script : ServerScript) (login : Login) → is_served script ≡ true → IsTyped script → Fits (Greeted login (greeting_payload script) offered [])
greeting_fits laws script login served typed =
    let small = greeting_is_short script served in
    record { kinds = (greets laws script served typed, tt); within = (omega arith, tt) }

pub greeted : (laws : PacketLaws) (login : Login) (talks : List Talk) (s : Served) (h : History) → Stands s h → IsTyped h.script → h.login ≡ None → IsGreeted login talks s h
greeted laws login talks s h st typed e =
    let script = h.script in
    let p = greeting_payload script in
    let t = Greeted login p offered [] in
    let new = still_new s.phase h s.unread e st.place in
    let f = answer_bytes script (kept_after h.login) in
    let said : h.sent ++ s.owed ≡ server_bytes (turns t) ++ [] =
    st.said ∙ ap (λ x. (chunks p 0 ++ x) ++ flat_map f h.commands) (ap (verdict_bytes script) e) ∙ ap (λ cs. (chunks p 0 ++ []) ++ flat_map f cs) new.commands ∙ append-nil (chunks p 0 ++ []) in
    let waits = waits_on_none _ _ in
    ap (λ x. cut (Start login ∷ talks) x) said ∙ exchange_is_cut t talks [] (greeting_fits laws script login st.served typed) ∙ ap (λ (r : Read). cut_after r (cut talks)) (reads_none t)
    ∙ ap (λ front. let c : Cut = record { talks = t ∷ []; rest = rest_in_front [] front } in c) waits
