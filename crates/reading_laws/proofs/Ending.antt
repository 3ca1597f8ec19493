-- On a connection that is open, each call that has ended is settled, unless it was to close a statement.
use Rattle.std.proofs.Common.{◌≡◌, ℕ, Bool, true, false, not, ◌||◌, None, List, [], ◌∷◌, refl, sym, ap, subst}
use Rattle.my_grammar.specs.declared.login.Login.{Login}
use Rattle.my_reading.specs.declared.call.Call.{Call}
use Rattle.my_reading.specs.declared.call.Call.TheVariants.{Prepare, CloseStmt}
use Rattle.my_reading.specs.Calls.{kind_of}
use Rattle.my_reading.specs.Course.{Stop, Owes, Awaits, Returns}
use Rattle.my_reading.specs.Endings.{AreCalls, Ends, IsCut, IsOpen, IsCancelled, IsLinkFailure, IsLinkEnd, closes_cancelled}
use Rattle.my_reading.specs.Place.{Place, first_place}
use Rattle.my_reading.specs.Reading.{ReadCall, halt_of, is_closing, read_calls, reading}
use Rattle.my_reading.specs.Tape.{Span, spans}
use Rattle.reading_laws.specs.Kept.{AllEnded, AllSettled, OpenAreKept, is_ended, is_settled}
use Rattle.reading_laws.proofs.Running.{or_settled, settled_are_kept}

-- a call that was cut off is open, or closes the session
module _ (login : Login) (c : ReadCall) (call : Call) (whole : c.span.call ≡ call) (closing : closes_cancelled (kind_of call) c.halt.place ≡ true)
    (leaves : is_closing call c.span.ending ≡ false) (ended : is_ended call c.span.ending ≡ true) where
  cut_closes : IsCut login c → ⊥
  cut_closes (IsOpen e) = let none : is_ended call None ≡ true = subst (λ x. is_ended call x ≡ true) e ended in absurd (cc)
  cut_closes (IsCancelled e) =
      let kept = subst (λ x. is_closing call x ≡ false) e leaves in
      let closed : closes_cancelled (kind_of c.span.call) c.halt.place ≡ true = subst (λ x. closes_cancelled (kind_of x) c.halt.place ≡ true) (sym whole) closing in
      absurd (cc)
  cut_closes (IsLinkFailure e) = let kept = subst (λ x. is_closing call x ≡ false) e leaves in absurd (cc)
  cut_closes (IsLinkEnd stop e) = let kept = subst (λ x. is_closing call x ≡ false) e leaves in absurd (cc)

module _ (login : Login) (c : ReadCall) where
  prepared_settles : (text : List ℕ) (s : Stop) → c.span.call ≡ Prepare text → Ends login c s → is_closing (Prepare text) c.span.ending ≡ false
      → is_ended (Prepare text) c.span.ending ≡ true → is_settled (Prepare text) s ≡ true
  prepared_settles text Owes whole e leaves ended = absurd (cut_closes login c (Prepare text) whole refl leaves ended e)
  prepared_settles text Awaits whole e leaves ended = absurd (cut_closes login c (Prepare text) whole refl leaves ended e)
  prepared_settles text (Returns t) whole e leaves ended = ap not (subst (λ x. is_closing (Prepare text) x ≡ false) e leaves)

  closed_settles : (id : ℕ) (s : Stop) → c.span.call ≡ CloseStmt id → Ends login c s → is_closing (CloseStmt id) c.span.ending ≡ false
      → is_ended (CloseStmt id) c.span.ending ≡ true → is_settled (CloseStmt id) s ≡ true
  closed_settles id Owes whole e leaves ended = absurd (cut_closes login c (CloseStmt id) whole refl leaves ended e)
  closed_settles id Awaits whole e leaves ended = absurd (cut_closes login c (CloseStmt id) whole refl leaves ended e)
  closed_settles id (Returns t) whole e leaves ended = subst (λ x. is_ended (CloseStmt id) x ≡ true) e ended

  one_settles : (call : Call) → c.span.call ≡ call → Ends login c c.halt.stop → is_closing call c.span.ending ≡ false → is_ended call c.span.ending ≡ true
      → is_settled call c.halt.stop ≡ true
  one_settles (Prepare text) whole e leaves ended = prepared_settles text c.halt.stop whole e leaves ended
  one_settles (CloseStmt id) whole e leaves ended = closed_settles id c.halt.stop whole e leaves ended
  one_settles call whole e leaves ended = refl

left_is_false : (a b : Bool) → (a || b) ≡ false → a ≡ false
left_is_false true b e = absurd (cc)
left_is_false false b e = refl

right_is_false : (a b : Bool) → (a || b) ≡ false → b ≡ false
right_is_false true b e = absurd (cc)
right_is_false false b e = e

-- a session that is open was so before each call
open_before : (login : Login) (ss : List Span) (closed : Bool) (p : Place) → (read_calls login ss closed p).closed ≡ false → closed ≡ false
unfolding read_calls
open_before login [] closed p e = e
open_before login (s ∷ ss) closed p e = left_is_false closed (is_closing s.call s.ending)
    (open_before login ss (closed || is_closing s.call s.ending) (halt_of login closed s p).place e)

calls_settle : (login : Login) (ss : List Span) (closed : Bool) (p : Place) → AreCalls login (read_calls login ss closed p).calls
    → (read_calls login ss closed p).closed ≡ false → AllEnded (read_calls login ss closed p).calls → AllSettled (read_calls login ss closed p).calls
unfolding read_calls
calls_settle login [] closed p w e h = tt
calls_settle login (s ∷ ss) closed p w e h =
    let c : ReadCall = record { span = s; closed = closed; halt = halt_of login closed s p } in
    let after = open_before login ss (closed || is_closing s.call s.ending) (halt_of login closed s p).place e in (
      or_settled closed _ (one_settles login c s.call refl w.0.ends (right_is_false closed (is_closing s.call s.ending) after) h.0),
      calls_settle login ss (closed || is_closing s.call s.ending) (halt_of login closed s p).place w.1 e h.1,
    )

pub open_are_kept : OpenAreKept
unfolding reading
open_are_kept login t w e h = settled_are_kept login t (calls_settle login (spans t) false (first_place login) w.calls e h)
