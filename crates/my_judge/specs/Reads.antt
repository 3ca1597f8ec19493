-- What the program finds of a call in its place on a tape.
use Rattle.std.specs.Prelude.{◌≡◌, ◌==◌, ℕ, ◌&&◌, ◌||◌, not, length, List, Bool, true, false, if◌then◌else◌}
use Rattle.std.specs.Bool.{Decides}
use Rattle.my_grammar.specs.declared.login.Login.{Login}
use Rattle.my_reading.specs.declared.call.Call.{Call}
use Rattle.my_reading.specs.declared.call.CallKind.{CallKind}
use Rattle.my_reading.specs.Calls.{kind_of, is_connect}
use Rattle.my_reading.specs.Course.{Halt, halt, Returns, course}
use Rattle.my_reading.specs.Endings.{IsCall}
use Rattle.my_reading.specs.declared.facts.Facts.{Facts}
use Rattle.my_reading.specs.Place.{Place, facts_at, is_taken}
use Rattle.my_reading.specs.Reading.{ReadCall, closed_answer, halt_of, is_closing}
use Rattle.my_reading.specs.Tape.{Tape, TapeCall, Span, between, sent_to, taken_to}
use Rattle.my_judge.specs.declared.reader.Reader.{Reader}
use Rattle.my_machine.specs.declared.step.Stop.{Stop}
use Rattle.my_judge.specs.Courses.{HaltIs}
use Rattle.my_judge.specs.Stands.{IsAt}

-- where a call stops on a closed connection, and on an open one
abbrev pub halt_at : Login → Bool → Call → Place → Halt
halt_at login true call p = halt p (Returns (closed_answer call))
halt_at login false call p = course login call p

abbrev pub StopIs : Login → Call → Reader → Stop → Reader → Type 0
StopIs login call old stop new = (p : Place) → IsAt login p old.stand → HaltIs login (halt_at login old.closed call p) stop new.stand

-- a call as it is read
abbrev pub read_of : Login → Bool → Span → Place → ReadCall
read_of login closed span p = record { span = span; closed = closed; halt = halt_of login closed span p }

-- The program is after the call, and knows whether it is right.
pub record ReadsCall (login : Login) (c : ReadCall) (right : Bool) (new : Reader) : Type 0 where
  pub right_is : Decides right (IsCall login c)
  pub at : IsAt login c.halt.place new.stand
  pub closed_is : new.closed ≡ c.closed || is_closing c.span.call c.span.ending

abbrev pub IsRead : Login → Span → Reader → Bool → Reader → Type 0
IsRead login span old right new = (p : Place) → IsAt login p old.stand → ReadsCall login (read_of login old.closed span p) right new

-- the first call connects, and no other does
abbrev pub may_stand : ℕ → CallKind → Bool
may_stand index kind = if index == 0 then is_connect kind else not (is_connect kind)

-- a call with these bytes, and with its own, before these calls
abbrev pub with_span : TapeCall → List ℕ → List ℕ → Span
with_span c sent taken = record { call = c.call; sent = sent; taken = taken; ending = c.ending }

abbrev pub span_of : Tape → TapeCall → List TapeCall → Span
span_of t c cs = with_span c (between c.sent_from (sent_to t cs) t.sent) (between c.taken_from (taken_to t cs) t.taken)

-- The call is right where it may stand and is read right; then the program is after it.
pub record TakesCall (login : Login) (index : ℕ) (c : ReadCall) (right : Bool) (new : Reader) : Type 0 where
  pub right_is : Decides right ((may_stand index (kind_of c.span.call) ≡ true) × IsCall login c)
  pub after : right ≡ true → IsAt login c.halt.place new.stand × (new.closed ≡ c.closed || is_closing c.span.call c.span.ending)

abbrev pub IsTaken : Login → ℕ → Span → Reader → Bool → Reader → Type 0
IsTaken login index span old right new = (p : Place) → IsAt login p old.stand → TakesCall login index (read_of login old.closed span p) right new

-- Wherever the program is: whether a stream took the set that is read, or whose end is left, on an open connection; what the
-- server said so far; how many bytes were sent so far.
abbrev pub IsTakenThere : Reader → Bool → Type 0
IsTakenThere r taken = (login : Login) (p : Place) → IsAt login p r.stand → taken ≡ not r.closed && is_taken p

abbrev pub AreFactsThere : Reader → Facts → Type 0
AreFactsThere r facts = (login : Login) (p : Place) → IsAt login p r.stand → facts ≡ facts_at login p

abbrev pub IsSentThere : Reader → ℕ → Type 0
IsSentThere r n = (login : Login) (p : Place) → IsAt login p r.stand → n ≡ length p.sent
