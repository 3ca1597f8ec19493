-- What was received is what the exchanges have of it, and what wasn't read.
use Rattle.std.proofs.Common.{◌≡◌, ◌⊎◌, inl, inr, ℕ, ◌+◌, ◌^◌, ◌≤◌, ◌<◌, List, [], ◌++◌, length, get_or, true, false, refl, sym, ap, ◌∙◌, subst, arith, append_assoc}
use Rattle.std.proofs.Math.Seq.{get_or-append_right}
use Rattle.std.proofs.Math.Dec.{leb}
use Rattle.std.proofs.lemmas.Bool.Decides.{leb_tells}
use Rattle.std.proofs.lemmas.List.{append-nil, get_or_append_left, get_or_past}
use Rattle.my_frame.specs.Chunks.{chunks}
use Rattle.my_frame.specs.Front.{Whole}
use Rattle.my_frame.specs.FrontLaws.{AreBytes}
use Rattle.my_frame.proofs.Meanings.{whole_stands}
use Rattle.my_grammar.proofs.Growth.{any_login, grows, reads}
use Rattle.my_grammar.specs.declared.spot.Kind.{Kind}
use Rattle.my_grammar.specs.Contexts.{is_bad}
use Rattle.my_grammar.specs.Cut.{front_of, kind_of}
use Rattle.my_grammar.specs.Growth.{grow}
use Rattle.my_grammar.specs.Talk.{Talk, Fits, limit_of, login_in, number_of, server_bytes, turns, secret_in}
use Rattle.my_reading.specs.Place.{Place, first_place, with_bytes, with_exchange, with_talk}
use Rattle.my_reading.specs.Reading.{reading}
use Rattle.my_reading.specs.Tape.{spans}
use Rattle.history_laws.specs.Taken.{EachIsSpelled, taken_by}
use Rattle.history_laws.proofs.Keeping.{all_taken, calls_keep}
use Rattle.history_laws.proofs.Moving.{Moved, Alters, Takes, Begins, IsAlike}
use Rattle.history_laws.proofs.Opening.{IsNew}

bytes_after : (a b bytes : List ℕ) → bytes ≡ a ++ b → AreBytes bytes → AreBytes b
bytes_after a b bytes e w = record {
  below = λ k.
      let below : get_or bytes (length a + k) 0 < 2 ^ 8 = w.below (length a + k) in
      let le : length a ≤ length a + k = omega arith in
      let same : get_or bytes (length a + k) 0 ≡ get_or b k 0 = ap (λ (x : List ℕ). get_or x (length a + k) 0) e ∙ get_or-append_right a b (length a + k) 0 le ∙ ap (λ i. get_or b i 0) (omega arith) in
      subst (λ x. x < 2 ^ 8) same below;
}

bytes_before : (a b : List ℕ) → AreBytes (a ++ b) → AreBytes a
bytes_before a b w = record { below = λ k. by_place k (leb_tells (length a) k) }
  where
    by_place : (k : ℕ) → ((leb (length a) k ≡ true) × (length a ≤ k)) ⊎ ((leb (length a) k ≡ false) × (k < length a)) → get_or a k 0 < 2 ^ 8
    by_place k (inl more) = subst (λ x. x < 2 ^ 8) (sym (get_or_past a k 0 more.1)) (omega arith)
    by_place k (inr less) = subst (λ x. x < 2 ^ 8) (get_or_append_left a b 0 k less.1) (w.below k)

-- of bytes the exchange in front fits, and the exchanges have them
record IsSpelled (b : List ℕ) (p : Place) : Type 0 where
  fits : Fits p.talk
  spelled : (taken_by p.older ++ server_bytes (turns p.talk)) ++ p.unread ≡ b

alike_spelled : (b : List ℕ) (p q : Place) → IsAlike p q → IsSpelled b p → IsSpelled b q
alike_spelled b p q a w = record {
  fits = subst Fits (sym a.talk) w.fits;
  spelled = ap (λ es. (taken_by es ++ server_bytes (turns q.talk)) ++ q.unread) a.older
      ∙ ap (λ (t : Talk). (taken_by p.older ++ server_bytes (turns t)) ++ q.unread) a.talk
      ∙ ap (λ u. (taken_by p.older ++ server_bytes (turns p.talk)) ++ u) a.unread ∙ w.spelled;
}

-- a payload more
taken_spelled : (b : List ℕ) (p : Place) (k : Kind) (payload rest : List ℕ) (next : ℕ) → AreBytes b → front_of p.talk p.unread ≡ Whole payload rest next → kind_of p.talk payload ≡ k → is_bad k ≡ false
    → IsSpelled b p → IsSpelled b (with_talk p (grow k p.talk payload) rest)
taken_spelled b p k payload rest next are front kind good w =
    let n = number_of (turns p.talk) in
    let before = taken_by p.older in
    let here = server_bytes (turns p.talk) in
    let whole = whole_stands n (limit_of p.talk) p.unread payload rest next (bytes_after (before ++ here) p.unread b (sym w.spelled) are) front in
    let gr = grows p.talk k payload kind good whole.within w.fits in
    let more : server_bytes (turns (grow k p.talk payload)) ≡ here ++ chunks payload n = ap server_bytes (gr.turns_are any_login) ∙ (reads (login_in any_login p.talk) (secret_in p.talk) k payload (turns p.talk)).server in
    record {
      fits = gr.fits;
      spelled = ap (λ x. (before ++ x) ++ rest) more
          ∙ ap (λ x. x ++ rest) (sym (append_assoc before here (chunks payload n)))
          ∙ append_assoc (before ++ here) (chunks payload n) rest
          ∙ ap (λ u. (before ++ here) ++ u) (sym whole.spelled) ∙ w.spelled;
    }

-- an exchange more
begun_spelled : (b : List ℕ) (p : Place) (t : Talk) → IsNew t → IsSpelled b p → (Fits t) × ((((taken_by p.older ++ server_bytes (turns p.talk)) ++ server_bytes (turns t)) ++ p.unread) ≡ b)
begun_spelled b p t n w =
    let all = taken_by p.older ++ server_bytes (turns p.talk) in
    (n.fits, ap (λ x. (all ++ x) ++ p.unread) n.silent ∙ ap (λ x. x ++ p.unread) (append-nil all) ∙ w.spelled)

keeps_spelled : (a b : List ℕ) (p q : Place) → (AreBytes b → IsSpelled b p) → Moved p q → AreBytes b → IsSpelled b q
keeps_spelled a b p q w (Alters r alike) are = alike_spelled b p q alike (w are)
keeps_spelled a b p q w (Takes r k payload rest next paid front kind good alike) are =
    alike_spelled b (with_talk p (grow k p.talk payload) rest) q alike (taken_spelled b p k payload rest next are front kind good (w are))
keeps_spelled a b p q w (Begins r call t paid n alike) are =
    let x = begun_spelled b p t n (w are) in
    alike_spelled b (with_exchange p call t) q alike (record { fits = x.0; spelled = x.1 })

arrives_spelled : (a b : List ℕ) (p : Place) (sent taken : List ℕ) → (AreBytes b → IsSpelled b p) → AreBytes (b ++ taken) → IsSpelled (b ++ taken) (with_bytes sent taken p)
arrives_spelled a b p sent taken w are =
    let x = w (bytes_before b taken are) in
    record { fits = x.fits; spelled = sym (append_assoc (taken_by p.older ++ server_bytes (turns p.talk)) p.unread taken) ∙ ap (λ u. u ++ taken) x.spelled }

pub each_is_spelled : EachIsSpelled
unfolding reading
each_is_spelled login t are ordered =
    let bytes = all_taken t ordered in
    let w = calls_keep login (λ a b p. AreBytes b → IsSpelled b p) keeps_spelled arrives_spelled (spans t) false [] [] (first_place login) (λ _. record { fits = record { kinds = tt; within = tt }; spelled = refl }) in
    (w (subst AreBytes (sym bytes) are)).spelled ∙ bytes
