-- A call more leaves a tape that the reading accepts.
use Rattle.std.proofs.Common.{ℕ, ◌≡◌, ◌≤◌, ◌==◌, nat_le, List, [], ◌∷◌, ◌++◌, length, Bool, true, false, not, ◌||◌, ◌&&◌, Option, Some, None, is_some, refl, sym, ap, ◌∙◌, subst, length-append, arith}
use Rattle.std.proofs.lemmas.Bool.Decides.{nat_tests}
use Rattle.my_grammar.specs.declared.login.Login.{Login}
use Rattle.my_reading.specs.Calls.{is_connect, kind_of}
use Rattle.my_reading.specs.Endings.{AreCalls, IsTape, connects_first, connects_none}
use Rattle.my_reading.specs.Order.{IsInOrder, are_in_order, begins_first, is_within, leads_to}
use Rattle.my_reading.specs.Place.{Place, first_place}
use Rattle.my_reading.specs.Reading.{read_calls, reading}
use Rattle.my_reading.specs.Tape.{Tape, TapeCall, spans_from}
use Rattle.my_client.specs.declared.tape.DoneCall.{DoneCall}
use Rattle.my_client.specs.Kept.{Kept, made_of, told_by}
use Rattle.my_client.specs.Made.{has_connected}
use Rattle.my_client.specs.Reads.{IsRead, calls_kept, tape_kept}
use Rattle.history_laws.proofs.Stepping.{both}

pub both_hold : (a b : Bool) → a ≡ true → b ≡ true → (a && b) ≡ true
both_hold true b e f = f
both_hold false b e f = cc

-- the first call connects, and no other does
none_so : (login : Login) (t u : Tape) (ds : List DoneCall) (d : DoneCall) (c b : Bool) (p q : Place) → is_connect (kind_of d.call) ≡ false
    → connects_none (read_calls login (spans_from t (calls_kept ds None)) c p).calls ≡ true → connects_none (read_calls login (spans_from u (calls_kept (ds ++ d ∷ []) None)) b q).calls ≡ true
unfolding read_calls
none_so login t u [] d c b p q other w = both_hold _ _ (ap not other) refl
none_so login t u (x ∷ ds) d c b p q other w =
    let v = both (not (is_connect (kind_of x.call))) _ w in
    both_hold _ _ v.0 (none_so login t u ds d _ _ _ _ other v.1)

first_so : (login : Login) (t u : Tape) (ds : List DoneCall) (d : DoneCall) (p : Place) → is_connect (kind_of d.call) ≡ false → has_connected (made_of ds) ≡ true
    → connects_first (read_calls login (spans_from t (calls_kept ds None)) false p).calls ≡ true → connects_first (read_calls login (spans_from u (calls_kept (ds ++ d ∷ []) None)) false p).calls ≡ true
unfolding read_calls
first_so login t u [] d p other there w = cc
first_so login t u (x ∷ ds) d p other there w =
    let v = both (is_connect (kind_of x.call)) _ w in
    both_hold _ _ v.0 (none_so login t u ds d _ _ _ _ other v.1)

-- the calls stand in order
reaches : (a n m : ℕ) → n ≤ m → nat_le a n ≡ true → nat_le a m ≡ true
reaches a n m h e = grind (arith, nat_tests)

same_place : (n m : ℕ) → n ≤ m → nat_le n m ≡ true
same_place n m e = grind (arith, nat_tests)

module _ (t u : Tape) (d : DoneCall) (sent : length t.sent ≤ length u.sent) (taken : length t.taken ≤ length u.taken) (sent_from : d.sent_from ≡ length t.sent) (taken_from : d.taken_from ≡ length t.taken) where
  abbrev done : DoneCall → TapeCall
  done x = record { call = x.call; sent_from = x.sent_from; taken_from = x.taken_from; ending = Some (told_by x.said) }

  within_so : (c : TapeCall) → is_within t c ≡ true → is_within u c ≡ true
  within_so c e =
      let v = both (nat_le c.sent_from (length t.sent)) _ e in
      both_hold _ _ (reaches c.sent_from (length t.sent) (length u.sent) sent v.0) (reaches c.taken_from (length t.taken) (length u.taken) taken v.1)

  leads_so : (x : DoneCall) (ds : List DoneCall) → is_within t (done x) ≡ true → leads_to (done x) (calls_kept ds None) ≡ true → leads_to (done x) (calls_kept (ds ++ d ∷ []) None) ≡ true
  leads_so x [] within e =
      let v = both (nat_le x.sent_from (length t.sent)) _ within in
      both_hold _ _ (both_hold _ _ refl (subst (λ n. nat_le x.sent_from n ≡ true) (sym sent_from) v.0)) (subst (λ n. nat_le x.taken_from n ≡ true) (sym taken_from) v.1)
  leads_so x (y ∷ ds) within e = e

  order_so : (ds : List DoneCall) → are_in_order t (calls_kept ds None) ≡ true → are_in_order u (calls_kept (ds ++ d ∷ []) None) ≡ true
  order_so [] e =
      both_hold _ _ (both_hold _ _ (both_hold _ _ (same_place d.sent_from (length u.sent) (omega (arith, sent, sent_from))) (same_place d.taken_from (length u.taken) (omega (arith, taken, taken_from)))) refl) refl
  order_so (x ∷ ds) e =
      let v = both (is_within t (done x) && leads_to (done x) (calls_kept ds None)) _ e in
      let z = both (is_within t (done x)) _ v.0 in
      both_hold _ _ (both_hold _ _ (within_so (done x) z.0) (leads_so x ds z.0 z.1)) (order_so ds v.1)

begins_so : (t u : Tape) (ds : List DoneCall) (d : DoneCall) → has_connected (made_of ds) ≡ true → begins_first t (calls_kept ds None) ≡ true → begins_first u (calls_kept (ds ++ d ∷ []) None) ≡ true
begins_so t u [] d there e = cc
begins_so t u (x ∷ ds) d there e = e

longer : (xs ys zs : List ℕ) → ys ≡ xs ++ zs → length xs ≤ length ys
longer xs ys zs e = let so = ap length e ∙ length-append xs zs in omega (arith, so)

-- a tape with a call more
pub tape_more : (login : Login) (k end : Kept) (d : DoneCall) (sent taken : List ℕ) → k.pending ≡ None → end.pending ≡ None → end.calls ≡ k.calls ++ d ∷ [] → end.sent ≡ k.sent ++ sent → end.taken ≡ k.taken ++ taken
    → d.sent_from ≡ length k.sent → d.taken_from ≡ length k.taken → is_connect (kind_of d.call) ≡ false → has_connected (made_of k.calls) ≡ true → IsRead login end → IsTape login (tape_kept k) → IsTape login (tape_kept end)
unfolding reading
tape_more login k end d sent taken none now calls sent_is taken_is sent_from taken_from other there read w =
    let before : calls_kept k.calls k.pending ≡ calls_kept k.calls None = ap (calls_kept k.calls) none in
    let after : calls_kept end.calls end.pending ≡ calls_kept (k.calls ++ d ∷ []) None = ap (calls_kept end.calls) now ∙ ap (λ ds. calls_kept ds None) calls in
    record {
      first = subst (λ (cs : List TapeCall). connects_first (read_calls login (spans_from (tape_kept end) cs) false (first_place login)).calls ≡ true) (sym after)
          (first_so login (tape_kept k) (tape_kept end) k.calls d (first_place login) other there (subst (λ (cs : List TapeCall). connects_first (read_calls login (spans_from (tape_kept k) cs) false (first_place login)).calls ≡ true) before w.first));
      calls = read;
      order = record {
        first = subst (λ (cs : List TapeCall). begins_first (tape_kept end) cs ≡ true) (sym after) (begins_so (tape_kept k) (tape_kept end) k.calls d there (subst (λ (cs : List TapeCall). begins_first (tape_kept k) cs ≡ true) before w.order.first));
        order = subst (λ (cs : List TapeCall). are_in_order (tape_kept end) cs ≡ true) (sym after)
            (order_so (tape_kept k) (tape_kept end) d (longer k.sent end.sent sent sent_is) (longer k.taken end.taken taken taken_is) sent_from taken_from k.calls (subst (λ (cs : List TapeCall). are_in_order (tape_kept k) cs ≡ true) before w.order.order));
      };
    }
