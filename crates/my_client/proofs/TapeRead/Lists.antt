-- A tape's calls with their bytes, when bytes come or a call ends.
use Rattle.std.proofs.Common.{◌≡◌, ℕ, zero, suc, ◌-◌, ◌≤◌, List, [], ◌∷◌, ◌++◌, length, take, drop, Bool, ◌||◌, Some, None, refl, sym, ap, ◌∙◌, arith, length-append}
use Rattle.std.proofs.lemmas.List.{take-append-le, take_rest}
use Rattle.my_grammar.specs.declared.login.Login.{Login}
use Rattle.my_reading.specs.Endings.{IsCall, AreCalls}
use Rattle.my_reading.specs.Place.{Place}
use Rattle.my_reading.specs.Reading.{ReadCall, Reading, read_calls, halt_of, is_closing, with_call}
use Rattle.my_reading.specs.Tape.{Tape, Span, between, spans_from}
use Rattle.my_client.specs.declared.tape.DoneCall.{DoneCall}
use Rattle.my_client.specs.Kept.{Asked, told_by}
use Rattle.my_client.specs.Reads.{calls_kept, span_to, spans_to, AreWithin}

less_none : (n : ℕ) → zero - n ≡ zero
less_none n = omega arith

less_one : (n m : ℕ) → suc m - suc n ≡ m - n
less_one n m = omega arith

-- bytes up to a place are not changed by those that come later
pub between_more : (from to : ℕ) (xs ys : List ℕ) → to ≤ length xs → between from to (xs ++ ys) ≡ between from to xs
between_more zero to xs ys within = let all : to - zero ≡ to = omega arith in
    ap (λ n. take n (xs ++ ys)) all ∙ take-append-le to xs ys within ∙ ap (λ n. take n xs) (sym all)
between_more (suc n) zero xs ys within =
    ap (λ m. take m (drop (suc n) (xs ++ ys))) (less_none (suc n)) ∙ sym (ap (λ m. take m (drop (suc n) xs)) (less_none (suc n)))
between_more (suc n) (suc m) [] ys within = absurd (omega (arith, within))
between_more (suc n) (suc m) (x ∷ xs) ys within =
    ap (λ k. take k (drop n (xs ++ ys))) (less_one n m) ∙ between_more n m xs ys (omega (arith, within)) ∙ ap (λ k. take k (drop n xs)) (sym (less_one n m))

-- bytes up to the end
pub between_end : (from : ℕ) (xs : List ℕ) → between from (length xs) xs ≡ drop from xs
between_end from xs = take_rest xs from

pub within_more : (sent taken out come : List ℕ) (ds : List DoneCall) → AreWithin sent taken ds → AreWithin (sent ++ out) (taken ++ come) ds
within_more sent taken out come [] w = tt
within_more sent taken out come (d ∷ ds) w =
    let s = length-append sent out in
    let t = length-append taken come in
    (omega (arith, w.0, s), omega (arith, w.1, t), within_more sent taken out come ds w.2)

pub within_end : (sent taken : List ℕ) (ds : List DoneCall) (d : DoneCall) → AreWithin sent taken ds → d.sent_from ≤ length sent → d.taken_from ≤ length taken → AreWithin sent taken (ds ++ d ∷ [])
within_end sent taken [] d w a b = (a, b, tt)
within_end sent taken (e ∷ ds) d w a b = (w.0, w.1, within_end sent taken ds d w.2 a b)

span_more : (sent taken out come : List ℕ) (d : DoneCall) (n m : ℕ) → n ≤ length sent → m ≤ length taken → span_to (sent ++ out) (taken ++ come) d n m ≡ span_to sent taken d n m
span_more sent taken out come d n m a b =
    ap (λ (x : List ℕ). let s : Span = record { call = d.call; sent = x; taken = between d.taken_from m (taken ++ come); ending = Some (told_by d.said) } in s) (between_more d.sent_from n sent out a)
    ∙ ap (λ (x : List ℕ). let s : Span = record { call = d.call; sent = between d.sent_from n sent; taken = x; ending = Some (told_by d.said) } in s) (between_more d.taken_from m taken come b)

pub spans_more : (sent taken out come : List ℕ) (ds : List DoneCall) (n m : ℕ) → AreWithin sent taken ds → n ≤ length sent → m ≤ length taken → spans_to (sent ++ out) (taken ++ come) ds n m ≡ spans_to sent taken ds n m
spans_more sent taken out come [] n m w a b = refl
spans_more sent taken out come (d ∷ []) n m w a b = ap (λ s. s ∷ []) (span_more sent taken out come d n m a b)
spans_more sent taken out come (d ∷ e ∷ ds) n m w a b =
    ap (λ s. s ∷ spans_to (sent ++ out) (taken ++ come) (e ∷ ds) n m) (span_more sent taken out come d e.sent_from e.taken_from w.2.0 w.2.1)
    ∙ ap (λ ss. span_to sent taken d e.sent_from e.taken_from ∷ ss) (spans_more sent taken out come (e ∷ ds) n m w.2 a b)

pub spans_end : (sent taken : List ℕ) (ds : List DoneCall) (d : DoneCall) (n m : ℕ) → spans_to sent taken (ds ++ d ∷ []) n m ≡ spans_to sent taken ds d.sent_from d.taken_from ++ span_to sent taken d n m ∷ []
spans_end sent taken [] d n m = refl
spans_end sent taken (e ∷ []) d n m = refl
spans_end sent taken (e ∷ f ∷ ds) d n m = ap (λ ss. span_to sent taken e f.sent_from f.taken_from ∷ ss) (spans_end sent taken (f ∷ ds) d n m)

-- one call more is read where the others stopped
abbrev pub one_read : Login → Reading → Span → ReadCall
one_read login r s = record { span = s; closed = r.closed; halt = halt_of login r.closed s r.place }

abbrev pub with_one : Login → Reading → Span → Reading
with_one login r s = record { calls = r.calls ++ one_read login r s ∷ []; place = (one_read login r s).halt.place; closed = r.closed || is_closing s.call s.ending }

pub read_one_more : (login : Login) (ss : List Span) (s : Span) (closed : Bool) (p : Place) → read_calls login (ss ++ s ∷ []) closed p ≡ with_one login (read_calls login ss closed p) s
unfolding read_calls
read_one_more login [] s closed p = refl
read_one_more login (x ∷ ss) s closed p =
    ap (with_call (record { span = x; closed = closed; halt = halt_of login closed x p })) (read_one_more login ss s (closed || is_closing x.call x.ending) (halt_of login closed x p).place)

pub calls_more : (login : Login) (cs : List ReadCall) (c : ReadCall) → AreCalls login cs → IsCall login c → AreCalls login (cs ++ c ∷ [])
calls_more login [] c w i = (i, tt)
calls_more login (x ∷ cs) c w i = (w.0, calls_more login cs c w.1 i)

-- the spans of the tape: those of the calls that ended, and of the open one
module _ (sent taken : List ℕ) (t : Tape) (sent_is : t.sent ≡ sent) (taken_is : t.taken ≡ taken) where
  pub spans_at_rest : (ds : List DoneCall) → spans_from t (calls_kept ds None) ≡ spans_to sent taken ds (length sent) (length taken)
  spans_at_rest [] = refl
  spans_at_rest (d ∷ []) =
      ap (λ (x : List ℕ). let s : Span = record { call = d.call; sent = between d.sent_from (length x) x; taken = between d.taken_from (length t.taken) t.taken; ending = Some (told_by d.said) } in s ∷ []) sent_is
      ∙ ap (λ (x : List ℕ). let s : Span = record { call = d.call; sent = between d.sent_from (length sent) sent; taken = between d.taken_from (length x) x; ending = Some (told_by d.said) } in s ∷ []) taken_is
  spans_at_rest (d ∷ e ∷ ds) =
      ap (λ (x : List ℕ). let s : Span = record { call = d.call; sent = between d.sent_from e.sent_from x; taken = between d.taken_from e.taken_from t.taken; ending = Some (told_by d.said) } in s ∷ spans_from t (calls_kept (e ∷ ds) None)) sent_is
      ∙ ap (λ (x : List ℕ). let s : Span = record { call = d.call; sent = between d.sent_from e.sent_from sent; taken = between d.taken_from e.taken_from x; ending = Some (told_by d.said) } in s ∷ spans_from t (calls_kept (e ∷ ds) None)) taken_is
      ∙ ap (λ ss. span_to sent taken d e.sent_from e.taken_from ∷ ss) (spans_at_rest (e ∷ ds))

  abbrev pub open_span : Asked → Span
  open_span a = record { call = a.call; sent = between a.sent_from (length sent) sent; taken = between a.taken_from (length taken) taken; ending = None }

  pub spans_open : (a : Asked) (ds : List DoneCall) → spans_from t (calls_kept ds (Some a)) ≡ spans_to sent taken ds a.sent_from a.taken_from ++ open_span a ∷ []
  spans_open a [] =
      ap (λ (x : List ℕ). let s : Span = record { call = a.call; sent = between a.sent_from (length x) x; taken = between a.taken_from (length t.taken) t.taken; ending = None } in s ∷ []) sent_is
      ∙ ap (λ (x : List ℕ). let s : Span = record { call = a.call; sent = between a.sent_from (length sent) sent; taken = between a.taken_from (length x) x; ending = None } in s ∷ []) taken_is
  spans_open a (d ∷ []) =
      ap (λ (x : List ℕ). let s : Span = record { call = d.call; sent = between d.sent_from a.sent_from x; taken = between d.taken_from a.taken_from t.taken; ending = Some (told_by d.said) } in s ∷ spans_from t (calls_kept [] (Some a))) sent_is
      ∙ ap (λ (x : List ℕ). let s : Span = record { call = d.call; sent = between d.sent_from a.sent_from sent; taken = between d.taken_from a.taken_from x; ending = Some (told_by d.said) } in s ∷ spans_from t (calls_kept [] (Some a))) taken_is
      ∙ ap (λ ss. span_to sent taken d a.sent_from a.taken_from ∷ ss) (spans_open a [])
  spans_open a (d ∷ e ∷ ds) =
      ap (λ (x : List ℕ). let s : Span = record { call = d.call; sent = between d.sent_from e.sent_from x; taken = between d.taken_from e.taken_from t.taken; ending = Some (told_by d.said) } in s ∷ spans_from t (calls_kept (e ∷ ds) (Some a))) sent_is
      ∙ ap (λ (x : List ℕ). let s : Span = record { call = d.call; sent = between d.sent_from e.sent_from sent; taken = between d.taken_from e.taken_from x; ending = Some (told_by d.said) } in s ∷ spans_from t (calls_kept (e ∷ ds) (Some a))) taken_is
      ∙ ap (λ ss. span_to sent taken d e.sent_from e.taken_from ∷ ss) (spans_open a (e ∷ ds))
