-- What a connection kept, by the one reading of its tape.
use Rattle.std.specs.Prelude.{◌≡◌, ◌≤◌, ◌⊎◌, ℕ, List, [], ◌∷◌, length, Option, Some, None, Bool, false}
use Rattle.my_grammar.specs.declared.login.Login.{Login}
use Rattle.my_reading.specs.declared.facts.Facts.{Facts}
use Rattle.my_reading.specs.Course.{Stop, Owes, Awaits, Returns}
use Rattle.my_reading.specs.Endings.{AreCalls}
use Rattle.my_reading.specs.Place.{Place, first_place, facts_at}
use Rattle.my_reading.specs.Reading.{ReadCall, read_calls, reading}
use Rattle.my_reading.specs.Tape.{Tape, TapeCall, Span, between}
use Rattle.my_reading.specs.Told.{Told}
use Rattle.my_client.specs.declared.tape.DoneCall.{DoneCall}
use Rattle.my_client.specs.Kept.{Asked, Kept, told_by}

-- the tape of a connection
abbrev pub calls_kept : List DoneCall → Option Asked → List TapeCall
calls_kept [] None = []
calls_kept [] (Some a) = record { call = a.call; sent_from = a.sent_from; taken_from = a.taken_from; ending = None } ∷ []
calls_kept (d ∷ ds) pending =
    record { call = d.call; sent_from = d.sent_from; taken_from = d.taken_from; ending = Some (told_by d.said) } ∷ calls_kept ds pending

abbrev pub tape_kept : Kept → Tape
tape_kept k = record { sent = k.sent; taken = k.taken; calls = calls_kept k.calls k.pending }

-- Each call of it ended, or is open, exactly as the reading of the tape says.
abbrev pub IsRead : Login → Kept → Type 0
IsRead login k = AreCalls login (reading login (tape_kept k)).calls

-- where the reading stands, and what the server said by then
abbrev pub place_kept : Login → Kept → Place
place_kept login k = (reading login (tape_kept k)).place

abbrev pub facts_kept : Login → Kept → Facts
facts_kept login k = facts_at login (place_kept login k)

-- where the newest call stops
abbrev pub newest_stop : List ReadCall → Option Stop
newest_stop [] = None
newest_stop (c ∷ []) = Some c.halt.stop
newest_stop (c ∷ d ∷ cs) = newest_stop (d ∷ cs)

abbrev pub stop_kept : Login → Kept → Option Stop
stop_kept login k = newest_stop (reading login (tape_kept k)).calls

-- the newest call returns this by its bytes
abbrev pub ComesTo : Login → Kept → Told → Type 0
ComesTo login k t = stop_kept login k ≡ Some (Returns t)

-- the newest call owes bytes, or awaits some
abbrev pub IsWaiting : Login → Kept → Type 0
IsWaiting login k = (stop_kept login k ≡ Some Owes) ⊎ (stop_kept login k ≡ Some Awaits)

-- the calls that ended, each with its bytes up to the beginning of the next one, the last up to these counts
abbrev pub span_to : List ℕ → List ℕ → DoneCall → ℕ → ℕ → Span
span_to sent taken d n m = record {
  call = d.call;
  sent = between d.sent_from n sent;
  taken = between d.taken_from m taken;
  ending = Some (told_by d.said);
}

abbrev pub spans_to : List ℕ → List ℕ → List DoneCall → ℕ → ℕ → List Span
spans_to sent taken [] n m = []
spans_to sent taken (d ∷ []) n m = span_to sent taken d n m ∷ []
spans_to sent taken (d ∷ e ∷ ds) n m = span_to sent taken d e.sent_from e.taken_from ∷ spans_to sent taken (e ∷ ds) n m

-- each call began within the bytes
abbrev pub AreWithin : List ℕ → List ℕ → List DoneCall → Type 0
AreWithin sent taken [] = Unit {0}
AreWithin sent taken (d ∷ ds) = (d.sent_from ≤ length sent) × (d.taken_from ≤ length taken) × AreWithin sent taken ds

-- The calls that ended, up to these counts of bytes: they are as the reading says, and it stands here, closed or not.
pub record EndedRead (login : Login) (k : Kept) (n m : ℕ) (closed : Bool) (place : Place) : Type 0 where
  pub within : AreWithin k.sent k.taken k.calls
  pub sent_within : n ≤ length k.sent
  pub taken_within : m ≤ length k.taken
  pub calls : AreCalls login (read_calls login (spans_to k.sent k.taken k.calls n m) false (first_place login)).calls
  pub place_is : (read_calls login (spans_to k.sent k.taken k.calls n m) false (first_place login)).place ≡ place
  pub closed_is : (read_calls login (spans_to k.sent k.taken k.calls n m) false (first_place login)).closed ≡ closed
