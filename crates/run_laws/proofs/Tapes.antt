-- Each connection's tape in a run is one that the reading accepts.
use Rattle.std.proofs.Common.{ℕ, ◌≡◌, List, [], ◌∷◌, map, Bool, true, false, not, refl}
use Rattle.my_grammar.specs.declared.login.Login.{Login}
use Rattle.my_reading.specs.Calls.{kind_of, is_connect}
use Rattle.my_reading.specs.Endings.{connects_first, connects_none}
use Rattle.my_reading.specs.Place.{Place, first_place}
use Rattle.my_reading.specs.Reading.{read_calls, reading}
use Rattle.my_reading.specs.Tape.{Tape, TapeCall, spans_from}
use Rattle.my_client.specs.Reads.{calls_kept, tape_kept}
use Rattle.my_link.specs.World.{Plans}
use Rattle.my_steps.specs.Grows.{AreGrown, Line, handles_after}
use Rattle.my_steps.specs.Handle.{Handle, Absent, Dialing, Joined, at_number}
use Rattle.my_run.specs.Headline.{EachExplained, IsExplained}
use Rattle.history_laws.proofs.Gathering.{each_is_lawful}
use Rattle.run_laws.specs.Tapes.{AtEach, HasLaw, HasTape, EachTapeIsLawful, EachTapeIsRead}
use Rattle.run_laws.proofs.Connecting.{IsOnce, at_once, both, connects_once, grown_once, left_of, none_connects, right_of}
use Rattle.run_laws.proofs.Growing.{HasAt}
use Rattle.run_laws.proofs.Ordering.{IsOrdered, grown_ordered}

-- the reading has the tape's calls
none_read : (login : Login) (t : Tape) (cs : List TapeCall) (closed : Bool) (p : Place) → none_connects (map (λ c. c.call) cs) ≡ true → connects_none (read_calls login (spans_from t cs) closed p).calls ≡ true
unfolding read_calls
none_read login t [] closed p e = refl
none_read login t (c ∷ cs) closed p e = both _ _ (left_of _ (none_connects (map (λ c. c.call) cs)) e) (none_read login t cs _ _ (right_of (not (is_connect (kind_of c.call))) _ e))

first_read : (login : Login) (t : Tape) (cs : List TapeCall) (closed : Bool) (p : Place) → connects_once (map (λ c. c.call) cs) ≡ true → connects_first (read_calls login (spans_from t cs) closed p).calls ≡ true
unfolding read_calls
first_read login t [] closed p e = refl
first_read login t (c ∷ cs) closed p e = both _ _ (left_of _ (none_connects (map (λ c. c.call) cs)) e) (none_read login t cs _ _ (right_of (is_connect (kind_of c.call)) _ e))

tape_at : (login : Login) (h : Handle) → IsOnce h → HasAt IsOrdered h → IsExplained login h → HasTape login h
unfolding reading
tape_at login Absent w o e = tt
tape_at login (Dialing left) w o e = tt
tape_at login (Joined there k x) w o e = record {
  first = first_read login (tape_kept k) (calls_kept k.calls k.pending) false (first_place login) w;
  calls = e;
  order = record { first = o.first (tape_kept k); order = o.order };
}

tapes_after : (login : Login) (plans : Plans) (lines : List Line) → AreGrown login plans lines → EachExplained login lines → AtEach (HasTape login) lines
tapes_after login plans [] g w = tt
tapes_after login plans (l ∷ ls) g w = (
  λ n. tape_at login (at_number l.handles n) (at_once login l.handles n (grown_once login plans (l ∷ ls) g)) (grown_ordered login plans (l ∷ ls) n g) (w.0 n),
  tapes_after login plans ls g.1 w.1,
)

pub each_tape_is_read : EachTapeIsRead
each_tape_is_read login plans before later steps answers tapes h = tapes_after login plans h.lines h.grown h.explained

law_at : (login : Login) (h : Handle) → HasTape login h → HasLaw login h
law_at login Absent w = tt
law_at login (Dialing left) w = tt
law_at login (Joined there k x) w = λ bytes. each_is_lawful login (tape_kept k) bytes w

laws_after : (login : Login) (lines : List Line) → AtEach (HasTape login) lines → AtEach (HasLaw login) lines
laws_after login [] w = tt
laws_after login (l ∷ ls) w = (λ n. law_at login (at_number l.handles n) (w.0 n), laws_after login ls w.1)

pub each_tape_is_lawful : EachTapeIsLawful
each_tape_is_lawful login plans before later steps answers tapes h =
    laws_after login h.lines (each_tape_is_read login plans before later steps answers tapes h)

-- at the end of a run
pub last_has : (login : Login) (lines : List Line) (n : ℕ) → AtEach (HasTape login) lines → HasTape login (at_number (handles_after lines) n)
last_has login [] n w = tt
last_has login (l ∷ ls) n w = w.0 n
