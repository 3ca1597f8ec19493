-- What was tested can be sent.
use Rattle.std.specs.Prelude.{find, is_none}
use Rattle.std.proofs.Common.{◌≡◌, inl, inr, subst, ℕ, ◌+◌, ◌^◌, ◌<◌, ◌&&◌, Bool, true, false, List, [], ◌∷◌, length, Option, Some, None, nat_lt, nat_le, arith, refl}
use Rattle.std.specs.List.{AllByRecursion, list_all}
use Rattle.std.proofs.lemmas.Bool.Decides.{nat_tests}
use Rattle.my_server.specs.declared.script.Reply.{Reply}
use Rattle.my_server.specs.declared.script.ReplyAnswer.{ReplyAnswer}
use Rattle.my_server.specs.declared.script.ReplyAnswer.TheVariants.{Fine, Refuse, Sets}
use Rattle.my_frame.proofs.NumberLaws.{chosen}
use Rattle.my_server.specs.declared.script.ScriptFault.{ScriptFault}
use Rattle.my_server.specs.declared.script.ScriptFault.TheVariants.{BadVersion, BadReply}
use Rattle.my_server.specs.declared.script.ServerScript.{ServerScript}
use Rattle.my_server.specs.declared.script.ServerSet.{ServerSet}
use Rattle.my_server.specs.Answer.{AreFew, CanSend}
use Rattle.my_server.specs.Faults.{is_answer, is_reply, is_served, is_set, is_version, reply_fault, script_fault}
use Rattle.my_server.specs.Machine.{AreSendable}

pub both : (a b : Bool) → (a && b) ≡ true → (a ≡ true) × (b ≡ true)
both true b e = (refl, e)
both false b e = absurd cc

pub few_names : (set : ServerSet) → is_set set ≡ true → length set.names < 2 ^ 16
few_names set e =
    let n = length set.names in
    let w = both (nat_lt 0 n && nat_le n 65535) _ e in
    let v = both (nat_lt 0 n) (nat_le n 65535) w.0 in
    let le = v.1 in
    grind (arith, nat_tests)

are_few : (sets : List ServerSet) → list_all is_set sets ≡ true → AreFew sets
are_few [] e = tt
are_few (set ∷ sets) e =
    let w = both (is_set set) (list_all is_set sets) e in
    (few_names set w.0, are_few sets w.1)

pub can_send : (answer : ReplyAnswer) → is_answer answer ≡ true → CanSend answer
can_send (Fine ok) e = tt
can_send (Refuse err) e = tt
can_send (Sets sets) e = are_few sets (both (nat_lt 0 (length sets)) (list_all is_set sets) e).1

reply_sends : (reply : Reply) → is_reply reply ≡ true → CanSend reply.answer
unfolding is_reply
reply_sends reply e = can_send reply.answer (both (is_answer reply.answer) _ e).0

pub reply_step : (index : ℕ) (reply : Reply) (replies : List Reply) → reply_fault index (reply ∷ replies) ≡ None → (is_reply reply ≡ true) × (reply_fault (index + 1) replies ≡ None)
reply_step index reply replies e =
    elim (chosen (is_reply reply) (reply_fault (index + 1) replies) (Some (BadReply index)) None e) [
      | inl w ↦ w
      | inr w ↦ let no = w.1 in absurd cc
    ]

are_sendable : (index : ℕ) (replies : List Reply) → reply_fault index replies ≡ None → AreSendable replies
are_sendable index [] e = tt
are_sendable index (reply ∷ replies) e =
    let w = reply_step index reply replies e in
    (reply_sends reply w.0, are_sendable (index + 1) replies w.1)

no_fault : (o : Option ScriptFault) → is_none o ≡ true → o ≡ None
no_fault None e = refl
no_fault (Some fault) e = absurd cc

pub served_parts : (script : ServerScript) → is_served script ≡ true → (is_version script.version ≡ true) × (reply_fault 0 script.replies ≡ None)
unfolding script_fault
served_parts script e =
    elim (chosen (is_version script.version) (reply_fault 0 script.replies) (Some BadVersion) None (no_fault _ e)) [
      | inl w ↦ w
      | inr w ↦ let no = w.1 in absurd cc
    ]

pub served_replies : (script : ServerScript) → is_served script ≡ true → AreSendable script.replies
served_replies script e = are_sendable 0 script.replies (served_parts script e).1

-- what holds of each item holds of the one that is found
pub found_has : {X : Type 0} (P : X → Type 0) (test : X → Bool) (xs : List X) (x : X) → find test xs ≡ Some x → AllByRecursion P xs → P x
found_has {X} P test [] x e w = absurd cc
found_has {X} P test (first ∷ xs) x e w =
    elim (chosen (test first) (Some first) (find test xs) (Some x) e) [
      | inl v ↦ let some = v.1 in let is : first ≡ x = cc in subst P is w.0
      | inr v ↦ found_has P test xs x v.1 w.1
    ]

-- each reply was tested
pub replies_are_fine : (index : ℕ) (replies : List Reply) → reply_fault index replies ≡ None → AllByRecursion (λ reply. is_reply reply ≡ true) replies
replies_are_fine index [] e = tt
replies_are_fine index (reply ∷ replies) e =
    let w = reply_step index reply replies e in
    (w.0, replies_are_fine (index + 1) replies w.1)
