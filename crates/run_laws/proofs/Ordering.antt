-- The calls of a connection's tape stand in order.
use Rattle.std.proofs.Common.{ℕ, ◌≡◌, ◌==◌, ◌≤◌, nat_le, List, [], ◌∷◌, ◌++◌, length, is_some, true, false, ◌&&◌, Option, Some, None, refl, sym, ap, ◌∙◌, subst, length-append, arith}
use Rattle.std.proofs.lemmas.Bool.Decides.{nat_tests}
use Rattle.my_value.specs.RowParts.{RowParts}
use Rattle.my_grammar.specs.declared.login.Login.{Login}
use Rattle.my_reading.specs.declared.call.Call.{Call}
use Rattle.my_reading.specs.Calls.{kind_of, is_connect}
use Rattle.my_reading.specs.Order.{are_in_order, begins_first, is_within, leads_to}
use Rattle.my_reading.specs.Tape.{Tape, TapeCall}
use Rattle.my_client.specs.declared.tape.DoneCall.{DoneCall}
use Rattle.my_client.specs.declared.tape.Said.{Said}
use Rattle.my_client.specs.Kept.{Asked, Kept, asking, ended_by, first_kept, told_by}
use Rattle.my_client.specs.Reads.{calls_kept, tape_kept}
use Rattle.my_link.specs.World.{Plans}
use Rattle.my_steps.specs.Grows.{Line, AreGrown, handles_after}
use Rattle.my_steps.specs.Handle.{at_number}
use Rattle.run_laws.proofs.Connecting.{both, left_of, right_of}
use Rattle.run_laws.proofs.Growing.{HasAt, at_has, grown_keeps}

-- The calls that a connection kept stand in order, and there is one, so the first one begins as on any tape.
pub record IsOrdered (k : Kept) : Type 0 where
  pub first : (t : Tape) → begins_first t (calls_kept k.calls k.pending) ≡ true
  pub order : are_in_order (tape_kept k) (calls_kept k.calls k.pending) ≡ true

first_more : (ds : List DoneCall) (a : Asked) → ((t : Tape) → begins_first t (calls_kept ds None) ≡ true) → (t : Tape) → begins_first t (calls_kept ds (Some a)) ≡ true
first_more [] a w t = let e : false ≡ true = w (record { sent = 0 ∷ []; taken = []; calls = [] }) in absurd cc
first_more (d ∷ ds) a w t = w t

first_end : (ds : List DoneCall) (d : DoneCall) (a : Asked) → d.sent_from ≡ a.sent_from → d.taken_from ≡ a.taken_from → (t : Tape) → begins_first t (calls_kept ds (Some a)) ≡ true → begins_first t (calls_kept (ds ++ d ∷ []) None) ≡ true
first_end [] d a e f t w = ap (λ n. (n == 0) && (d.taken_from == 0)) e ∙ ap (λ n. (a.sent_from == 0) && (n == 0)) f ∙ w
first_end (x ∷ ds) d a e f t w = w

-- on a longer tape
reaches : (a n m : ℕ) → n ≤ m → nat_le a n ≡ true → nat_le a m ≡ true
reaches a n m h e = grind (arith, nat_tests)

within_longer : (t u : Tape) (c : TapeCall) → length t.sent ≤ length u.sent → length t.taken ≤ length u.taken → is_within t c ≡ true → is_within u c ≡ true
within_longer t u c h i e =
    both _ _ (reaches c.sent_from (length t.sent) (length u.sent) h (left_of _ (nat_le c.taken_from (length t.taken)) e))
    (reaches c.taken_from (length t.taken) (length u.taken) i (right_of (nat_le c.sent_from (length t.sent)) _ e))

order_longer : (t u : Tape) (cs : List TapeCall) → length t.sent ≤ length u.sent → length t.taken ≤ length u.taken → are_in_order t cs ≡ true → are_in_order u cs ≡ true
order_longer t u [] h i e = refl
order_longer t u (c ∷ cs) h i e =
    let place = left_of (is_within t c && leads_to c cs) (are_in_order t cs) e in
    both _ _ (both _ _ (within_longer t u c h i (left_of _ (leads_to c cs) place)) (right_of (is_within t c) _ place)) (order_longer t u cs h i (right_of (is_within t c && leads_to c cs) _ e))

-- a call that begins where the tape ends
begins_last : (n m : ℕ) → n ≡ m → nat_le n m ≡ true
begins_last n m e = grind (arith, nat_tests)

leads_more : (t : Tape) (c : TapeCall) (ds : List DoneCall) (a : Asked) → a.sent_from ≡ length t.sent → a.taken_from ≡ length t.taken → is_some c.ending ≡ true → is_within t c ≡ true → leads_to c (calls_kept ds None) ≡ true → leads_to c (calls_kept ds (Some a)) ≡ true
leads_more t c [] a e f ended within w =
    both _ _ (both _ _ ended (subst (λ n. nat_le c.sent_from n ≡ true) (sym e) (left_of _ (nat_le c.taken_from (length t.taken)) within)))
    (subst (λ n. nat_le c.taken_from n ≡ true) (sym f) (right_of (nat_le c.sent_from (length t.sent)) _ within))
leads_more t c (d ∷ ds) a e f ended within w = w

-- a call that ended
abbrev done : DoneCall → TapeCall
done d = record { call = d.call; sent_from = d.sent_from; taken_from = d.taken_from; ending = Some (told_by d.said) }

order_more : (t : Tape) (ds : List DoneCall) (a : Asked) → a.sent_from ≡ length t.sent → a.taken_from ≡ length t.taken → are_in_order t (calls_kept ds None) ≡ true → are_in_order t (calls_kept ds (Some a)) ≡ true
order_more t [] a e f w = both _ _ (both _ _ (both _ _ (begins_last a.sent_from (length t.sent) e) (begins_last a.taken_from (length t.taken) f)) refl) refl
order_more t (d ∷ ds) a e f w =
    let place = left_of (is_within t (done d) && leads_to (done d) (calls_kept ds None)) (are_in_order t (calls_kept ds None)) w in
    let within = left_of (is_within t (done d)) (leads_to (done d) (calls_kept ds None)) place in
    both _ _ (both _ _ within (leads_more t (done d) ds a e f refl within (right_of (is_within t (done d)) _ place)))
    (order_more t ds a e f (right_of (is_within t (done d) && leads_to (done d) (calls_kept ds None)) _ w))

-- the open call ends
leads_end : (c : TapeCall) (ds : List DoneCall) (d : DoneCall) (a : Asked) → d.sent_from ≡ a.sent_from → d.taken_from ≡ a.taken_from → leads_to c (calls_kept ds (Some a)) ≡ true → leads_to c (calls_kept (ds ++ d ∷ []) None) ≡ true
leads_end c [] d a e f w =
    ap (λ n. is_some c.ending && nat_le c.sent_from n && nat_le c.taken_from d.taken_from) e ∙ ap (λ n. is_some c.ending && nat_le c.sent_from a.sent_from && nat_le c.taken_from n) f ∙ w
leads_end c (x ∷ ds) d a e f w = w

order_end : (t : Tape) (ds : List DoneCall) (d : DoneCall) (a : Asked) → d.sent_from ≡ a.sent_from → d.taken_from ≡ a.taken_from → are_in_order t (calls_kept ds (Some a)) ≡ true → are_in_order t (calls_kept (ds ++ d ∷ []) None) ≡ true
order_end t [] d a e f w =
    ap (λ n. nat_le n (length t.sent) && nat_le d.taken_from (length t.taken) && true && true) e ∙ ap (λ n. nat_le a.sent_from (length t.sent) && nat_le n (length t.taken) && true && true) f ∙ w
order_end t (x ∷ ds) d a e f w =
    let place = left_of (is_within t (done x) && leads_to (done x) (calls_kept ds (Some a))) (are_in_order t (calls_kept ds (Some a))) w in
    both _ _ (both _ _ (left_of (is_within t (done x)) (leads_to (done x) (calls_kept ds (Some a))) place) (leads_end (done x) ds d a e f (right_of (is_within t (done x)) _ place)))
    (order_end t ds d a e f (right_of (is_within t (done x) && leads_to (done x) (calls_kept ds (Some a))) _ w))

begun : (k : Kept) (call : Call) (rows : Option (List RowParts)) → k.pending ≡ None → is_connect (kind_of call) ≡ false → IsOrdered k → IsOrdered (asking k call rows)
begun k call rows none other w =
    let a : Asked = record { call = call; sent_from = length k.sent; taken_from = length k.taken; rows = rows } in
    record {
      first = first_more k.calls a (subst (λ p. (t : Tape) → begins_first t (calls_kept k.calls p) ≡ true) none w.first);
      order = order_more (tape_kept (asking k call rows)) k.calls a refl refl
          (order_longer (tape_kept k) (tape_kept (asking k call rows)) (calls_kept k.calls None) (omega arith) (omega arith) (subst (λ p. are_in_order (tape_kept k) (calls_kept k.calls p) ≡ true) none w.order));
    }

ended : (k : Kept) (a : Asked) (said : Said) → k.pending ≡ Some a → IsOrdered k → IsOrdered (ended_by k a said)
ended k a said pending w =
    let d : DoneCall = record { call = a.call; sent_from = a.sent_from; taken_from = a.taken_from; said = said } in
    record {
      first = λ t. first_end k.calls d a refl refl t (subst (λ p. begins_first t (calls_kept k.calls p) ≡ true) pending (w.first t));
      order = order_end (tape_kept (ended_by k a said)) k.calls d a refl refl
          (order_longer (tape_kept k) (tape_kept (ended_by k a said)) (calls_kept k.calls (Some a)) (omega arith) (omega arith) (subst (λ p. are_in_order (tape_kept k) (calls_kept k.calls p) ≡ true) pending w.order));
    }

longer : (xs ys zs : List ℕ) → ys ≡ xs ++ zs → length xs ≤ length ys
longer xs ys zs e =
    let so = ap length e ∙ length-append xs zs in
    omega (arith, so)

followed : (k f : Kept) (sent taken : List ℕ) → f.sent ≡ k.sent ++ sent → f.taken ≡ k.taken ++ taken → f.calls ≡ k.calls → f.pending ≡ k.pending → IsOrdered k → IsOrdered f
followed k f sent taken grown more calls pending w =
    let same : calls_kept f.calls f.pending ≡ calls_kept k.calls k.pending = ap (λ p. calls_kept f.calls p) pending ∙ ap (λ ds. calls_kept ds k.pending) calls in
    record {
      first = λ t. ap (begins_first t) same ∙ w.first t;
      order = ap (are_in_order (tape_kept f)) same
          ∙ order_longer (tape_kept k) (tape_kept f) (calls_kept k.calls k.pending) (longer k.sent f.sent sent grown) (longer k.taken f.taken taken more) w.order;
    }

first : IsOrdered first_kept
first = record { first = λ t. refl; order = refl }

-- at each number of a run
pub grown_ordered : (login : Login) (plans : Plans) (ls : List Line) (n : ℕ) → AreGrown login plans ls → HasAt IsOrdered (at_number (handles_after ls) n)
grown_ordered login plans ls n w = at_has IsOrdered begun ended followed first login (handles_after ls) n (grown_keeps IsOrdered begun ended followed first login plans ls w)
