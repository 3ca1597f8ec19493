-- A property of places with the bytes so far holds after each tape, where it stays as a call moves and as bytes arrive.
use Rattle.std.proofs.Common.{◌≡◌, ℕ, suc, zero, ◌-◌, ◌≤◌, List, [], ◌∷◌, ◌++◌, length, take, drop, Bool, true, false, ◌&&◌, ◌||◌, nat_le, is_some, refl, sym, ap, ◌∙◌, arith}
use Rattle.std.proofs.Math.Seq.{take-length}
use Rattle.std.proofs.lemmas.Bool.{eqb-true, leb-true}
use Rattle.my_grammar.specs.declared.login.Login.{Login}
use Rattle.my_reading.specs.declared.call.Call.{Call}
use Rattle.my_reading.specs.Course.{Step, Goes, Stops, enough, parts_of, run, step}
use Rattle.my_reading.specs.Order.{IsInOrder, are_in_order, begins_first, is_within, leads_to}
use Rattle.my_reading.specs.Place.{Place, with_bytes}
use Rattle.my_reading.specs.Reading.{halt_of, is_closing, read_calls}
use Rattle.my_reading.specs.Tape.{Span, Tape, TapeCall, sent_to, spans, spans_from, taken_to}
use Rattle.history_laws.proofs.Moving.{Moved, place_of, step_moves}
use Rattle.history_laws.proofs.Stepping.{both}

-- the bytes after calls
abbrev pub sent_after : List ℕ → List Span → List ℕ
sent_after a [] = a
sent_after a (s ∷ ss) = sent_after (a ++ s.sent) ss

abbrev pub taken_after : List ℕ → List Span → List ℕ
taken_after b [] = b
taken_after b (s ∷ ss) = taken_after (b ++ s.taken) ss

module _ (login : Login) (P : List ℕ → List ℕ → Place → Type 0) (keeps : (a b : List ℕ) (p q : Place) → P a b p → Moved p q → P a b q)
    (arrives : (a b : List ℕ) (p : Place) (sent taken : List ℕ) → P a b p → P (a ++ sent) (b ++ taken) (with_bytes sent taken p)) where
  run_keeps : (n : ℕ) (c : Call) (a b : List ℕ) (s : Step) → P a b (place_of s) → P a b (run n login c s).place
  unfolding run
  run_keeps zero c a b (Stops p s) w = w
  run_keeps (suc n) c a b (Stops p s) w = w
  run_keeps zero c a b (Goes parts p) w = w
  run_keeps (suc n) c a b (Goes parts p) w = run_keeps n c a b (step login c parts p) (keeps a b p _ w (step_moves p login c parts))

  halt_keeps : (closed : Bool) (s : Span) (a b : List ℕ) (p : Place) → P a b p → P (a ++ s.sent) (b ++ s.taken) (halt_of login closed s p).place
  halt_keeps true s a b p w = arrives a b p s.sent s.taken w
  halt_keeps false s a b p w =
      let q : Place = with_bytes s.sent s.taken p in
      run_keeps (enough login s.call q) s.call (a ++ s.sent) (b ++ s.taken) (Goes (parts_of login s.call) q) (arrives a b p s.sent s.taken w)

  pub calls_keep : (ss : List Span) (closed : Bool) (a b : List ℕ) (p : Place) → P a b p → P (sent_after a ss) (taken_after b ss) (read_calls login ss closed p).place
  unfolding read_calls
  calls_keep [] closed a b p w = w
  calls_keep (s ∷ ss) closed a b p w = calls_keep ss (closed || is_closing s.call s.ending) (a ++ s.sent) (b ++ s.taken) (halt_of login closed s p).place (halt_keeps closed s a b p w)

take_nil : (n : ℕ) (xs : List ℕ) → xs ≡ [] → take n xs ≡ []
take_nil zero xs e = refl
take_nil (suc n) [] e = refl
take_nil (suc n) (x ∷ xs) e = cc

take_on : (n m : ℕ) (xs : List ℕ) → n ≤ m → take n xs ++ take (m - n) (drop n xs) ≡ take m xs
take_on zero m xs h = let none : m - 0 ≡ m = omega arith in ap (λ k. take k xs) none
take_on (suc n) zero xs h = absurd (omega arith)
take_on (suc n) (suc m) [] h = take_nil (suc m - suc n) [] refl
take_on (suc n) (suc m) (x ∷ xs) h =
    let less : suc m - suc n ≡ m - n = omega arith in
    ap (λ ys. x ∷ ys) (ap (λ k. take n xs ++ take k (drop n xs)) less ∙ take_on n m xs (omega arith))

-- the bytes of a tape's calls are the tape's
taken_whole : (t : Tape) (cs : List TapeCall) → are_in_order t cs ≡ true → taken_after (take (taken_to t cs) t.taken) (spans_from t cs) ≡ t.taken
taken_whole t [] e = take-length t.taken
taken_whole t (c ∷ []) e =
    let within = both (is_within t c) _ (both (is_within t c && true) _ e).0 in
    let le : c.taken_from ≤ length t.taken = leb-true c.taken_from (length t.taken) (both (nat_le c.sent_from (length t.sent)) _ within.0).1 in
    take_on c.taken_from (length t.taken) t.taken le ∙ take-length t.taken
taken_whole t (c ∷ d ∷ cs) e =
    let x = both (is_within t c && leads_to c (d ∷ cs)) _ e in
    let leads = (both (is_within t c) _ x.0).1 in
    let le : c.taken_from ≤ d.taken_from = leb-true c.taken_from d.taken_from (both (is_some c.ending && nat_le c.sent_from d.sent_from) _ leads).1 in
    ap (λ b. taken_after b (spans_from t (d ∷ cs))) (take_on c.taken_from d.taken_from t.taken le) ∙ taken_whole t (d ∷ cs) x.1

empty_bytes : (xs : List ℕ) → length xs ≡ 0 → [] ≡ xs
empty_bytes [] e = refl
empty_bytes (x ∷ xs) e = absurd (omega arith)

taken_from_start : (t : Tape) (cs : List TapeCall) → begins_first t cs ≡ true → are_in_order t cs ≡ true → taken_after [] (spans_from t cs) ≡ t.taken
taken_from_start t [] f e = empty_bytes t.taken (eqb-true (length t.taken) 0 (both _ _ f).1)
taken_from_start t (c ∷ cs) f e =
    let none : c.taken_from ≡ 0 = eqb-true c.taken_from 0 (both _ _ f).1 in
    ap (λ b. taken_after b (spans_from t (c ∷ cs))) (sym (ap (λ k. take k t.taken) none)) ∙ taken_whole t (c ∷ cs) e

pub all_taken : (t : Tape) → IsInOrder t → taken_after [] (spans t) ≡ t.taken
all_taken t w = taken_from_start t t.calls w.first w.order

-- and those that were sent
sent_whole : (t : Tape) (cs : List TapeCall) → are_in_order t cs ≡ true → sent_after (take (sent_to t cs) t.sent) (spans_from t cs) ≡ t.sent
sent_whole t [] e = take-length t.sent
sent_whole t (c ∷ []) e =
    let within = both (is_within t c) _ (both (is_within t c && true) _ e).0 in
    let le : c.sent_from ≤ length t.sent = leb-true c.sent_from (length t.sent) (both (nat_le c.sent_from (length t.sent)) _ within.0).0 in
    take_on c.sent_from (length t.sent) t.sent le ∙ take-length t.sent
sent_whole t (c ∷ d ∷ cs) e =
    let x = both (is_within t c && leads_to c (d ∷ cs)) _ e in
    let leads = (both (is_within t c) _ x.0).1 in
    let le : c.sent_from ≤ d.sent_from = leb-true c.sent_from d.sent_from (both (is_some c.ending) _ (both (is_some c.ending && nat_le c.sent_from d.sent_from) _ leads).0).1 in
    ap (λ b. sent_after b (spans_from t (d ∷ cs))) (take_on c.sent_from d.sent_from t.sent le) ∙ sent_whole t (d ∷ cs) x.1

sent_from_start : (t : Tape) (cs : List TapeCall) → begins_first t cs ≡ true → are_in_order t cs ≡ true → sent_after [] (spans_from t cs) ≡ t.sent
sent_from_start t [] f e = empty_bytes t.sent (eqb-true (length t.sent) 0 (both _ _ f).0)
sent_from_start t (c ∷ cs) f e =
    let none : c.sent_from ≡ 0 = eqb-true c.sent_from 0 (both _ _ f).0 in
    ap (λ b. sent_after b (spans_from t (c ∷ cs))) (sym (ap (λ k. take k t.sent) none)) ∙ sent_whole t (c ∷ cs) e

pub all_sent : (t : Tape) → IsInOrder t → sent_after [] (spans t) ≡ t.sent
all_sent t w = sent_from_start t t.calls w.first w.order
