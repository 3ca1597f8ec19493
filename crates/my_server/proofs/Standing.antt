-- Each call keeps what a core stands for.
use Rattle.std.proofs.Common.{◌≡◌, ◌≢◌, inl, inr, ℕ, List, [], ◌∷◌, ◌++◌, take, drop, Bool, true, false, cond, Option, Some, None, refl, sym, ap, subst, ◌∙◌, append_assoc}
use Rattle.std.specs.Prelude.{is_none}
use Rattle.std.specs.List.{AllByRecursion, flat_map}
use Rattle.std.proofs.lemmas.Grind.{flat_map-append}
use Rattle.std.proofs.lemmas.List.{append-nil, take-append-drop}
use Rattle.my_flags.specs.declared.flags.CapabilityFlags.{CapabilityFlags}
use Rattle.my_flags.specs.Sets.{deprecates_eof}
use Rattle.my_frame.specs.Chunks.{chunks, number_after_payload}
use Rattle.my_frame.specs.Front.{Front, Waiting, Broken, Whole, front_at}
use Rattle.my_frame.specs.FrontLaws.{AreBytes}
use Rattle.my_frame.proofs.Meanings.{whole_stands}
use Rattle.my_server.specs.declared.command.CommandKind.{CommandKind}
use Rattle.my_server.specs.declared.command.CommandKind.TheVariants as commands
use Rattle.my_server.specs.declared.phase.Phase.{Phase}
use Rattle.my_server.specs.declared.phase.Phase.TheVariants.{Login, Commands, Closed}
use Rattle.my_server.specs.declared.phase.CloseCause.{CloseCause}
use Rattle.my_server.specs.declared.phase.CloseCause.TheVariants as causes
use Rattle.my_server.specs.declared.phase.ServerStep.{ServerStep}
use Rattle.my_server.specs.declared.phase.ServerStep.TheVariants as steps
use Rattle.my_server.specs.declared.script.ServerScript.{ServerScript}
use Rattle.my_server.specs.ClientLogin.{LoginParts, login_at}
use Rattle.my_server.specs.Command.{command_kind, query_text}
use Rattle.my_server.specs.Faults.{script_fault}
use Rattle.my_server.specs.History.{History, IsJudged, IsNew, Stands, StandsAt, after_command, after_login, after_owed, after_phase, answer_bytes, beginning, client_side, after_send, kept_after, kept_by, login_bytes, server_side, after_step, after_take, verdict, verdict_bytes, with_command, with_login}
use Rattle.my_server.specs.Machine.{Served, Steps, admits, all_chunks, answer_payloads, answer_move, close_move, command_move, command_payloads, denial, fine_payload, fresh, greeting_payload, judge_move, kept_of, login_move, longest, next, owed_move, phase_move, refusal_payload, reply_move, taken_by, with_bytes, with_sent}

pub new_stands : (script : ServerScript) → script_fault script ≡ None → Stands (fresh script) (beginning script)
new_stands script e = record {
  script = refl;
  served = ap is_none e;
  place = record { login = refl; commands = refl };
  heard = refl;
  said = sym (append-nil _ ∙ append-nil _);
  none_quits = tt;
}

-- what was read stays where only bytes are taken and sent
abbrev with_tapes : History → List ℕ → List ℕ → History
with_tapes h taken sent = record { script = h.script; login = h.login; commands = h.commands; taken = taken; sent = sent }

judged_moves : (h : History) (taken sent : List ℕ) (admitted : Bool) (kept : CapabilityFlags) → IsJudged h admitted kept → IsJudged (with_tapes h taken sent) admitted kept
judged_moves h taken sent admitted kept w = record { payload = w.payload; login = w.login; payload_is = w.payload_is; login_is = w.login_is; judged = w.judged; kept_is = w.kept_is }

new_moves : (h : History) (taken sent : List ℕ) → IsNew h → IsNew (with_tapes h taken sent)
new_moves h taken sent w = record { login = w.login; commands = w.commands }

place_moves : (h : History) (taken sent : List ℕ) (phase : Phase) (unread : List ℕ) → StandsAt phase h unread → StandsAt phase (with_tapes h taken sent) unread
place_moves h taken sent Login unread w = new_moves h taken sent w
place_moves h taken sent (Commands kept) unread w = judged_moves h taken sent true kept w
place_moves h taken sent (Closed causes.Quit) unread w =
    record { kept = w.kept; payload = w.payload; judged = judged_moves h taken sent true w.kept w.judged; begins = w.begins; quits = w.quits }
place_moves h taken sent (Closed causes.Denied) unread w = record { kept = w.kept; judged = judged_moves h taken sent false w.kept w.judged; commands = w.commands }
place_moves h taken sent (Closed (causes.BadPacket place)) unread w =
    record { payload = w.payload; is_new = new_moves h taken sent w.is_new; begins = w.begins; bad = w.bad; place_is = w.place_is }
place_moves h taken sent (Closed (causes.Codec fault)) unread w =
    elim w [ inl a ↦ inl (new_moves h taken sent a.0, a.1) | inr b ↦ inr (b.0, judged_moves h taken sent true b.0 b.1, b.2) ]

pub sent_stands : (s : Served) (h : History) (count : ℕ) → Stands s h → Stands (with_sent s count) (after_send h (take count s.owed))
sent_stands s h count st = record {
  script = st.script;
  served = st.served;
  place = place_moves h h.taken (h.sent ++ take count s.owed) s.phase s.unread st.place;
  heard = st.heard;
  said = append_assoc h.sent (take count s.owed) (drop count s.owed) ∙ ap (λ x. h.sent ++ x) (take-append-drop count s.owed) ∙ st.said;
  none_quits = st.none_quits;
}

abbrev at_phase : Served → Phase → List ℕ → List ℕ → Served
at_phase s phase unread owed = record { script = s.script; phase = phase; unread = unread; owed = owed }

pub took_stands : (s : Served) (h : History) (bytes : List ℕ) → Stands s h → Stands (with_bytes s bytes) (after_take s.phase h bytes)
took_stands s h bytes st = by_phase s.phase st.place
  where
    more : h.taken ++ bytes ≡ client_side h ++ (s.unread ++ bytes)
    more = ap (λ x. x ++ bytes) st.heard ∙ append_assoc (client_side h) s.unread bytes

    by_phase : (phase : Phase) → StandsAt phase h s.unread → Stands (at_phase s phase (taken_by phase s.unread bytes) s.owed) (after_take phase h bytes)
    by_phase Login place = record { script = st.script; served = st.served; place = place_moves h (h.taken ++ bytes) h.sent Login (s.unread ++ bytes) place; heard = more; said = st.said; none_quits = st.none_quits }
    by_phase (Commands kept) place = record { script = st.script; served = st.served; place = place_moves h (h.taken ++ bytes) h.sent (Commands kept) (s.unread ++ bytes) place; heard = more; said = st.said; none_quits = st.none_quits }
    by_phase (Closed cause) place = record { script = st.script; served = st.served; place = place; heard = st.heard; said = st.said; none_quits = st.none_quits }

-- the core stands where it closes
closed_stands : (s : Served) (h : History) (cause : CloseCause) → Stands s h → StandsAt (Closed cause) h s.unread → Stands (close_move s cause).after h
closed_stands s h cause st place = record { script = st.script; served = st.served; place = place; heard = st.heard; said = st.said; none_quits = st.none_quits }

whole_is : (n : ℕ) (bytes p rest : List ℕ) (next : ℕ) → AreBytes bytes → front_at n longest bytes ≡ Whole p rest next → (bytes ≡ chunks p n ++ rest) × (next ≡ number_after_payload p n)
whole_is n bytes p rest next are e = let w = whole_stands n longest bytes p rest next are e in (w.spelled, w.next_is)

-- a login that is read is judged
judged_stands : (s : Served) (h : History) (p rest : List ℕ) (n : ℕ) (login : LoginParts) → AreBytes s.unread → Stands s h → IsNew h → front_at 1 longest s.unread ≡ Whole p rest n → login_at p ≡ Some login
    → (phase : Phase) (admitted : Bool) (said : List ℕ) → admits h.script login ≡ admitted → said ≡ cond admitted fine_payload (refusal_payload denial) → StandsAt phase (with_login h p (Some login)) rest
    → Stands (at_phase s phase rest (s.owed ++ chunks said n)) (with_login h p (Some login))
judged_stands s h p rest n login are st fresh_ front is phase admitted said judged said_is place =
    let w = whole_is 1 s.unread p rest n are front in
    let script = h.script in
    let none : flat_map (λ c. chunks c 0) h.commands ≡ [] = ap (flat_map (λ c. chunks c 0)) fresh_.commands in
    let before : client_side h ≡ [] = ap (λ l. login_bytes l ++ flat_map (λ c. chunks c 0) h.commands) fresh_.login ∙ none in
    let after : client_side (with_login h p (Some login)) ≡ chunks p 1 = ap (λ x. chunks p 1 ++ x) none ∙ append-nil (chunks p 1) in
    let greeting = chunks (greeting_payload script) 0 in
    let answers : (l : Option (List ℕ)) → flat_map (answer_bytes script (kept_after l)) h.commands ≡ [] = λ l. ap (flat_map (answer_bytes script (kept_after l))) fresh_.commands in
    let old : server_side h ≡ greeting = ap (λ x. (greeting ++ verdict_bytes script h.login) ++ x) (answers h.login) ∙ append-nil _ ∙ ap (λ l. greeting ++ verdict_bytes script l) fresh_.login ∙ append-nil greeting in
    let verdict_is : chunks said n ≡ verdict_bytes script (Some p) = ap (λ x. chunks x n) (said_is ∙ ap (λ (b : Bool). cond b fine_payload (refusal_payload denial)) (sym judged) ∙ ap (verdict script) (sym is)) ∙ ap (λ m. chunks (verdict script (login_at p)) m) w.1 in
    record {
      script = st.script;
      served = st.served;
      place = place;
      heard = st.heard ∙ ap (λ x. x ++ s.unread) before ∙ w.0 ∙ ap (λ x. x ++ rest) (sym after);
      said = sym (append_assoc h.sent s.owed (chunks said n)) ∙ ap (λ x. x ++ chunks said n) (st.said ∙ old) ∙ ap (λ x. greeting ++ x) verdict_is ∙ sym (ap (λ x. (greeting ++ verdict_bytes script (Some p)) ++ x) (answers (Some p)) ∙ append-nil _);
      none_quits = st.none_quits;
    }

login_stands : (s : Served) (h : History) → AreBytes s.unread → Stands s h → IsNew h → (f : Front) → front_at 1 longest s.unread ≡ f → Stands (login_move s f).after (after_login h f)
login_stands s h are st fresh_ Waiting e = st
login_stands s h are st fresh_ (Broken fault) e = closed_stands s h (causes.Codec fault) st (inl (fresh_, e))
login_stands s h are st fresh_ (Whole p rest n) e = by_login (login_at p) refl
  where
    by_verdict : (login : LoginParts) → login_at p ≡ Some login → (b : Bool) → admits s.script login ≡ b → Stands (cond b (reply_move s (Commands (kept_of login)) rest (chunks fine_payload n)) (reply_move s (Closed causes.Denied) rest (chunks (refusal_payload denial) n))).after (with_login h p (Some login))
    by_verdict login is true judged =
        let here : admits h.script login ≡ true = subst (λ x. admits x login ≡ true) st.script judged in
        judged_stands s h p rest n login are st fresh_ e is (Commands (kept_of login)) true fine_payload here refl (record { payload = p; login = login; payload_is = refl; login_is = is; judged = here; kept_is = refl })
    by_verdict login is false judged =
        let here : admits h.script login ≡ false = subst (λ x. admits x login ≡ false) st.script judged in
        judged_stands s h p rest n login are st fresh_ e is (Closed causes.Denied) false (refusal_payload denial) here refl (record { kept = kept_of login; judged = record { payload = p; login = login; payload_is = refl; login_is = is; judged = here; kept_is = refl }; commands = fresh_.commands })

    by_login : (o : Option LoginParts) → login_at p ≡ o → Stands (judge_move s rest n o).after (with_login h p o)
    by_login None is = closed_stands s h (causes.BadPacket 0) st (record { payload = p; is_new = fresh_; begins = record { rest = rest; next = n; front = e }; bad = is; place_is = refl })
    by_login (Some login) is = by_verdict login is (admits s.script login) refl

one_more : {X : Type 0} (P : X → Type 0) (xs : List X) (x : X) → AllByRecursion P xs → P x → AllByRecursion P (xs ++ x ∷ [])
one_more {X} P [] x all last = (last, tt)
one_more {X} P (y ∷ ys) x all last = (all.0, one_more P ys x all.1 last)

abbrev with_more : History → List ℕ → History
with_more h p = record { script = h.script; login = h.login; commands = h.commands ++ p ∷ []; taken = h.taken; sent = h.sent }

kept_stands : (h : History) (kept : CapabilityFlags) → IsJudged h true kept → kept ≡ kept_after h.login
kept_stands h kept w = w.kept_is ∙ ap kept_by (sym w.login_is) ∙ ap kept_after (sym w.payload_is)

flat_more : (f : List ℕ → List ℕ) (cs : List (List ℕ)) (c : List ℕ) → flat_map f (cs ++ c ∷ []) ≡ flat_map f cs ++ f c
flat_more f cs c = flat_map-append f cs (c ∷ []) ∙ ap (λ x. flat_map f cs ++ x) (append-nil (f c))

-- a command that is read is answered
answered_stands : (s : Served) (h : History) (kept : CapabilityFlags) (p rest : List ℕ) (n : ℕ) (k : CommandKind) → AreBytes s.unread → Stands s h → IsJudged h true kept → front_at 0 longest s.unread ≡ Whole p rest n → command_kind p ≡ k → k ≢ commands.Quit
    → Stands (at_phase s (Commands kept) rest (s.owed ++ all_chunks (command_payloads s.script (deprecates_eof kept) k (query_text p)) n)) (with_more h p)
answered_stands s h kept p rest n k are st judged front is open_ =
    let w = whole_is 0 s.unread p rest n are front in
    let script = h.script in
    let cs = h.commands in
    let greeted = chunks (greeting_payload script) 0 ++ verdict_bytes script h.login in
    let f = answer_bytes script (kept_after h.login) in
    let answer = all_chunks (command_payloads s.script (deprecates_eof kept) k (query_text p)) n in
    let answer_is : answer ≡ f p = ap (λ x. all_chunks (command_payloads x (deprecates_eof kept) k (query_text p)) n) st.script ∙ ap (λ x. all_chunks (command_payloads script (deprecates_eof kept) x (query_text p)) n) (sym is) ∙ ap (λ m. all_chunks (answer_payloads script (deprecates_eof kept) p) m) w.1 ∙ ap (λ x. answer_bytes script x p) (kept_stands h kept judged) in
    let client : (client_side h ++ chunks p 0) ≡ client_side (with_more h p) = append_assoc (login_bytes h.login) (flat_map (λ c. chunks c 0) cs) (chunks p 0) ∙ ap (λ x. login_bytes h.login ++ x) (sym (flat_more (λ c. chunks c 0) cs p)) in
    let server : (server_side h ++ f p) ≡ server_side (with_more h p) = append_assoc greeted (flat_map f cs) (f p) ∙ ap (λ x. greeted ++ x) (sym (flat_more f cs p)) in
    record {
      script = st.script;
      served = st.served;
      place = record { payload = judged.payload; login = judged.login; payload_is = judged.payload_is; login_is = judged.login_is; judged = judged.judged; kept_is = judged.kept_is };
      heard = st.heard ∙ ap (λ x. client_side h ++ x) w.0 ∙ sym (append_assoc (client_side h) (chunks p 0) rest) ∙ ap (λ x. x ++ rest) client;
      said = sym (append_assoc h.sent s.owed answer) ∙ ap (λ x. x ++ answer) st.said ∙ ap (λ x. server_side h ++ x) answer_is ∙ server;
      none_quits = one_more (λ c. command_kind c ≢ commands.Quit) cs p st.none_quits (λ e. open_ (sym is ∙ e));
    }

command_stands : (s : Served) (h : History) (kept : CapabilityFlags) → AreBytes s.unread → Stands s h → IsJudged h true kept → (f : Front) → front_at 0 longest s.unread ≡ f → Stands (command_move s kept f).after (after_command h f)
command_stands s h kept are st judged Waiting e = st
command_stands s h kept are st judged (Broken fault) e = closed_stands s h (causes.Codec fault) st (inr (kept, judged, e))
command_stands s h kept are st judged (Whole p rest n) e = by_kind (command_kind p) refl
  where
    by_kind : (k : CommandKind) → command_kind p ≡ k → Stands (answer_move s kept p rest n k).after (with_command h p k)
    by_kind commands.Quit is = closed_stands s h causes.Quit st (record { kept = kept; payload = p; judged = judged; begins = record { rest = rest; next = n; front = e }; quits = is })
    by_kind commands.Ping is = answered_stands s h kept p rest n commands.Ping are st judged e is (λ z. cc)
    by_kind commands.ResetConnection is = answered_stands s h kept p rest n commands.ResetConnection are st judged e is (λ z. cc)
    by_kind commands.Query is = answered_stands s h kept p rest n commands.Query are st judged e is (λ z. cc)
    by_kind commands.Other is = answered_stands s h kept p rest n commands.Other are st judged e is (λ z. cc)

phase_stands : (s : Served) (h : History) → AreBytes s.unread → Stands s h → (phase : Phase) → StandsAt phase h s.unread → Stands (phase_move s phase).after (after_phase s phase h)
phase_stands s h are st Login place = login_stands s h are st place (front_at 1 longest s.unread) refl
phase_stands s h are st (Commands kept) place = command_stands s h kept are st place (front_at 0 longest s.unread) refl
phase_stands s h are st (Closed cause) place = st

owed_stands : (s : Served) (h : History) → AreBytes s.unread → Stands s h → (owed : List ℕ) → Stands (owed_move s owed).after (after_owed s owed h)
owed_stands s h are st [] = phase_stands s h are st s.phase st.place
owed_stands s h are st (b ∷ bytes) = st

pub step_stands : (old new : Served) (h : History) (step : ServerStep) → AreBytes old.unread → Steps (next old) old new step → Stands old h → Stands new (after_step old step h)
step_stands old new h steps.Send are w st = subst (λ s. Stands s (after_owed old old.owed h)) (sym w.0) (owed_stands old h are st old.owed)
step_stands old new h steps.Need are w st = subst (λ s. Stands s (after_owed old old.owed h)) (sym w.0) (owed_stands old h are st old.owed)
step_stands old new h (steps.Closed cause) are w st = subst (λ s. Stands s (after_owed old old.owed h)) (sym w.0) (owed_stands old h are st old.owed)
step_stands old new h steps.NoMemory are w st = subst (λ s. Stands s h) (sym w) st
