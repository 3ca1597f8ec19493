-- The calls of a tape, one after the other.
use Rattle.std.proofs.Common.{◌≡◌, ℕ, zero, suc, ◌+◌, List, [], ◌∷◌, ◌++◌, length, take, map, Bool, true, false, not, ◌&&◌, ◌||◌, cond, refl, sym, ap, ◌∙◌, subst, arith}
use Rattle.std.proofs.lemmas.List.{append_assoc, append-nil, length-append, length-map, take_all}
use Rattle.std.proofs.Math.Dec.{eqb-suc-zero}
use Rattle.my_grammar.specs.declared.login.Login.{Login}
use Rattle.my_reading.specs.Calls.{kind_of, is_connect}
use Rattle.my_reading.specs.Endings.{AreCalls, IsCall, IsTape, connects_first, connects_none}
use Rattle.my_reading.specs.Order.{begins_first, is_within, leads_to, are_in_order}
use Rattle.my_reading.specs.Place.{Place, first_place}
use Rattle.my_reading.specs.Reading.{ReadCall, reading, read_calls, is_closing}
use Rattle.my_reading.specs.Tape.{Tape, TapeCall, spans_from}
use Rattle.my_judge.specs.declared.reader.Reader.{Reader}
use Rattle.my_judge.specs.declared.tape.Tape.{Tape as CodeTape}
use Rattle.my_judge.specs.declared.tape.TapeCall.{TapeCall as CodeCall}
use Rattle.my_judge.specs.Reads.{TakesCall, may_stand, read_of, span_of}
use Rattle.my_judge.specs.Stands.{IsAt, IsSomewhere}
use Rattle.my_judge.specs.Tapes.{call_of, tape_of}
use Rattle.my_judge.specs.Verdicts.{AreRight, FirstAreRight, IsAtFirst, IsRefuted, StandInOrder}

pub and_true : (a b : Bool) → a && b ≡ true → (a ≡ true) × (b ≡ true)
and_true true true e = (refl, refl)
and_true true false e = cc
and_true false b e = cc

pub and_both : (a b : Bool) → a ≡ true → b ≡ true → a && b ≡ true
and_both a b e f = cc

-- a call after others
none_more : (cs : List ReadCall) (c : ReadCall) → connects_none cs ≡ true → not (is_connect (kind_of c.span.call)) ≡ true → connects_none (cs ++ c ∷ []) ≡ true
none_more [] c e f = and_both _ _ f refl
none_more (d ∷ cs) c e f = let w = and_true (not (is_connect (kind_of d.span.call))) (connects_none cs) e in and_both _ _ w.0 (none_more cs c w.1 f)

none_last : (cs : List ReadCall) (c : ReadCall) → connects_none (cs ++ c ∷ []) ≡ true → not (is_connect (kind_of c.span.call)) ≡ true
none_last [] c e = (and_true (not (is_connect (kind_of c.span.call))) true e).0
none_last (d ∷ cs) c e = none_last cs c (and_true (not (is_connect (kind_of d.span.call))) (connects_none (cs ++ c ∷ [])) e).1

stands_later : (n : ℕ) (c : ReadCall) → may_stand (suc n) (kind_of c.span.call) ≡ not (is_connect (kind_of c.span.call))
stands_later n c = ap (λ b. cond b (is_connect (kind_of c.span.call)) (not (is_connect (kind_of c.span.call)))) (eqb-suc-zero n)

first_more : (cs : List ReadCall) (c : ReadCall) → connects_first cs ≡ true → may_stand (length cs) (kind_of c.span.call) ≡ true → connects_first (cs ++ c ∷ []) ≡ true
first_more [] c e f = and_both _ _ f refl
first_more (d ∷ cs) c e f = let w = and_true (is_connect (kind_of d.span.call)) (connects_none cs) e in and_both _ _ w.0 (none_more cs c w.1 (sym (stands_later (length cs) c) ∙ f))

first_last : (cs : List ReadCall) (c : ReadCall) → connects_first (cs ++ c ∷ []) ≡ true → may_stand (length cs) (kind_of c.span.call) ≡ true
first_last [] c e = (and_true (is_connect (kind_of c.span.call)) true e).0
first_last (d ∷ cs) c e = stands_later (length cs) c ∙ none_last cs c (and_true (is_connect (kind_of d.span.call)) (connects_none (cs ++ c ∷ [])) e).1

calls_more : (login : Login) (cs : List ReadCall) (c : ReadCall) → AreCalls login cs → IsCall login c → AreCalls login (cs ++ c ∷ [])
calls_more login [] c a w = (w, tt)
calls_more login (d ∷ cs) c a w = (a.0, calls_more login cs c a.1 w)

calls_last : (login : Login) (cs : List ReadCall) (c : ReadCall) → AreCalls login (cs ++ c ∷ []) → IsCall login c
calls_last login [] c a = a.0
calls_last login (d ∷ cs) c a = calls_last login cs c a.1

-- the first calls of a list
take_first : (cs : List ReadCall) (rest : List ReadCall) → take (length cs) (cs ++ rest) ≡ cs
take_first [] rest = refl
take_first (d ∷ cs) rest = ap (λ xs. d ∷ xs) (take_first cs rest)

take_next : (cs : List ReadCall) (c : ReadCall) (rest : List ReadCall) → take (suc (length cs)) (cs ++ c ∷ rest) ≡ cs ++ c ∷ []
take_next [] c rest = refl
take_next (d ∷ cs) c rest = ap (λ xs. d ∷ xs) (take_next cs c rest)

-- what a call leads to is said by the next one alone
pub leads_first : (n : ℕ) (c : TapeCall) (cs : List TapeCall) → leads_to c cs ≡ true → leads_to c (take n cs) ≡ true
leads_first zero c cs e = refl
leads_first (suc n) c [] e = refl
leads_first (suc n) c (d ∷ cs) e = e

leads_next : (c : TapeCall) (cs : List TapeCall) → leads_to c (take 1 cs) ≡ leads_to c cs
leads_next c [] = refl
leads_next c (d ∷ cs) = refl

both_gone : (a b d : Bool) → a ≡ true → b ≡ true → a && b && d ≡ d
both_gone a b d e f = cc

-- a call in its place leaves the order to the calls after it
order_after : (t : Tape) (c : TapeCall) (cs : List TapeCall) (m : ℕ) → is_within t c ≡ true → leads_to c cs ≡ true → are_in_order t (take (suc m) (c ∷ cs)) ≡ are_in_order t (take m cs)
order_after t c cs m e f = both_gone (is_within t c) (leads_to c (take m cs)) (are_in_order t (take m cs)) e (leads_first m c cs f)

stands_at : (t : Tape) (n : ℕ) → begins_first t t.calls ≡ true → are_in_order t (take n t.calls) ≡ true → StandInOrder t n
stands_at t zero e f = tt
stands_at t (suc n) e f = (e, f)

-- The first `index` calls are right, and these are left, by which the order is decided.
pub record Judged (login : Login) (tape : CodeTape) (index : ℕ) (left : List CodeCall) (r : Reader) : Type 0 where
  pub before : List ReadCall
  pub place : Place
  pub at : IsAt login place r.stand
  pub calls_are : (reading login (tape_of tape)).calls ≡ before ++ (read_calls login (spans_from (tape_of tape) (map call_of left)) r.closed place).calls
  pub count : length before ≡ index
  pub right : AreRight login before
  pub all : index + length left ≡ length tape.calls
  pub begins : begins_first (tape_of tape) (map call_of tape.calls) ≡ true
  pub order : (n m : ℕ) → n ≡ index + m → are_in_order (tape_of tape) (take n (map call_of tape.calls)) ≡ are_in_order (tape_of tape) (take m (map call_of left))

pub at_first : (login : Login) (tape : CodeTape) (left : List CodeCall) (r : Reader) → left ≡ tape.calls → IsAtFirst login r → begins_first (tape_of tape) (map call_of tape.calls) ≡ true → Judged login tape 0 left r
unfolding reading
at_first login tape left r is f begins = record {
  before = [];
  place = first_place login;
  at = f.at;
  calls_are = ap (λ b. (read_calls login (spans_from (tape_of tape) (map call_of tape.calls)) b (first_place login)).calls) (sym f.closed_is)
      ∙ ap (λ (cs : List CodeCall). (read_calls login (spans_from (tape_of tape) (map call_of cs)) r.closed (first_place login)).calls) (sym is);
  count = refl;
  right = record { first = refl; calls = tt };
  all = omega (arith, ap length is);
  begins = begins;
  order = λ n m e. ap (λ k. are_in_order (tape_of tape) (take k (map call_of tape.calls))) (omega (arith, e)) ∙ ap (λ (cs : List CodeCall). are_in_order (tape_of tape) (take m (map call_of cs))) (sym is);
}

-- a tape that doesn't begin with its first call
pub refutes_first : (login : Login) (t : Tape) → begins_first t t.calls ≡ false → IsRefuted login t 0
refutes_first login t e = record {
  before = record { calls = record { first = refl; calls = tt }; order = tt };
  wrong = λ w. let no : false ≡ true = sym e ∙ w.order.0 in absurd cc;
}

-- the reading is at a place
pub somewhere : (login : Login) (tape : CodeTape) (index : ℕ) (left : List CodeCall) (r : Reader) → Judged login tape index left r → IsSomewhere login r.stand
somewhere login tape index left r j = (j.place, j.at)

module _ (login : Login) (tape : CodeTape) (index : ℕ) (call : CodeCall) (left after : List CodeCall) (r new : Reader) (is : left ≡ call ∷ after) (j : Judged login tape index left r) where
  abbrev c : ReadCall
  c = read_of login r.closed (span_of (tape_of tape) (call_of call) (map call_of after)) j.place

  abbrev later : List ReadCall
  later = (read_calls login (spans_from (tape_of tape) (map call_of after)) (c.closed || is_closing c.span.call c.span.ending) c.halt.place).calls

  split : (reading login (tape_of tape)).calls ≡ j.before ++ c ∷ later
  unfolding read_calls
  split = j.calls_are ∙ ap (λ (cs : List CodeCall). j.before ++ (read_calls login (spans_from (tape_of tape) (map call_of cs)) r.closed j.place).calls) is

  order_at : (n m : ℕ) → n ≡ index + m → are_in_order (tape_of tape) (take n (map call_of tape.calls)) ≡ are_in_order (tape_of tape) (take m (call_of call ∷ map call_of after))
  order_at n m e = j.order n m e ∙ ap (λ (cs : List CodeCall). are_in_order (tape_of tape) (take m (map call_of cs))) is

  right_more : TakesCall login index c true new → AreRight login (j.before ++ c ∷ [])
  right_more t =
      let w = t.right_is.0 refl in
      record {
        first = first_more j.before c j.right.first (subst (λ n. may_stand n (kind_of c.span.call) ≡ true) (sym j.count) w.0);
        calls = calls_more login j.before c j.right.calls w.1;
      }

  pub goes_on : is_within (tape_of tape) (call_of call) ≡ true → leads_to (call_of call) (map call_of after) ≡ true → TakesCall login index c true new → Judged login tape (index + 1) after new
  goes_on within leads t =
      let there = t.after refl in
      record {
        before = j.before ++ c ∷ [];
        place = c.halt.place;
        at = there.0;
        calls_are = split ∙ sym (append_assoc j.before (c ∷ []) later) ∙ ap (λ b. (j.before ++ c ∷ []) ++ (read_calls login (spans_from (tape_of tape) (map call_of after)) b c.halt.place).calls) (sym there.1);
        count = omega (arith, length-append j.before (c ∷ []), j.count);
        right = right_more t;
        all = omega (arith, j.all, ap length is);
        begins = j.begins;
        order = λ n m e. order_at n (suc m) (omega (arith, e)) ∙ order_after (tape_of tape) (call_of call) (map call_of after) m within leads;
      }

  -- the calls before this one are right
  so_far : FirstAreRight login (tape_of tape) index
  so_far = record {
    calls = subst (AreRight login) (sym (ap (take index) split ∙ ap (λ n. take n (j.before ++ c ∷ later)) (sym j.count) ∙ take_first j.before (c ∷ later))) j.right;
    order = stands_at (tape_of tape) index j.begins (order_at index 0 (omega arith));
  }

  next_is : take (suc index) (reading login (tape_of tape)).calls ≡ j.before ++ c ∷ []
  next_is = ap (take (suc index)) split ∙ ap (λ n. take (suc n) (j.before ++ c ∷ later)) (sym j.count) ∙ take_next j.before c later

  one_more : suc index ≡ index + 1
  one_more = omega arith

  pub refutes : TakesCall login index c false new → IsRefuted login (tape_of tape) index
  refutes t = record {
    before = so_far;
    wrong = λ w.
        let v = subst (AreRight login) next_is w.calls in
        let no : false ≡ true = t.right_is.1 (subst (λ n. may_stand n (kind_of c.span.call) ≡ true) j.count (first_last j.before c v.first), calls_last login j.before c v.calls) in
        absurd cc;
  }

  -- the call begins after the tape's end
  pub refutes_place : is_within (tape_of tape) (call_of call) ≡ false → IsRefuted login (tape_of tape) index
  refutes_place e = record {
    before = so_far;
    wrong = λ w.
        let both = and_true (is_within (tape_of tape) (call_of call) && true) true (sym (order_at (suc index) 1 (omega arith)) ∙ w.order.1) in
        let no : false ≡ true = sym e ∙ (and_true (is_within (tape_of tape) (call_of call)) true both.0).0 in
        absurd cc;
  }

  -- the call is right, and the next one doesn't follow it
  pub refutes_next : is_within (tape_of tape) (call_of call) ≡ true → leads_to (call_of call) (map call_of after) ≡ false → TakesCall login index c true new → IsRefuted login (tape_of tape) (index + 1)
  refutes_next within e t = record {
    before = record {
      calls = subst (λ n. AreRight login (take n (reading login (tape_of tape)).calls)) one_more (subst (AreRight login) (sym next_is) (right_more t));
      order = stands_at (tape_of tape) (index + 1) j.begins (order_at (index + 1) 1 (omega arith) ∙ both_gone (is_within (tape_of tape) (call_of call)) true true within refl);
    };
    wrong = λ w.
        let both = and_true (is_within (tape_of tape) (call_of call) && leads_to (call_of call) (take 1 (map call_of after))) (are_in_order (tape_of tape) (take 1 (map call_of after)))
        (sym (order_at (suc (index + 1)) 2 (omega arith)) ∙ w.order.1) in
        let no : false ≡ true = sym e ∙ sym (leads_next (call_of call) (map call_of after)) ∙ (and_true (is_within (tape_of tape) (call_of call)) (leads_to (call_of call) (take 1 (map call_of after))) both.0).1 in
        absurd cc;
  }

  -- fewer calls are left, and their number fits
  pub fewer : length after + 1 ≡ length left
  fewer = omega (arith, ap length is)

pub accepts : (login : Login) (tape : CodeTape) (index : ℕ) (left : List CodeCall) (r : Reader) → left ≡ [] → Judged login tape index left r → IsTape login (tape_of tape)
unfolding read_calls
accepts login tape index left r is j =
    let all : (reading login (tape_of tape)).calls ≡ j.before = j.calls_are
    ∙ ap (λ (cs : List CodeCall). j.before ++ (read_calls login (spans_from (tape_of tape) (map call_of cs)) r.closed j.place).calls) is ∙ append-nil j.before in
    let count : index ≡ length (map call_of tape.calls) = omega (arith, j.all, ap length is, length-map tape.calls call_of) in
    record {
      first = ap connects_first all ∙ j.right.first;
      calls = subst (AreCalls login) (sym all) j.right.calls;
      order = record {
        first = j.begins;
        order = ap (are_in_order (tape_of tape)) (sym (take_all index (map call_of tape.calls) (omega (arith, count)))) ∙ j.order index 0 (omega arith);
      };
    }
