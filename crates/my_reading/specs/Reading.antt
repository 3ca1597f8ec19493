-- The one reading of a tape: what each call comes to over its bytes, where the reading stands after it, and whether it is closed.
use Rattle.std.specs.Prelude.{List, [], ◌∷◌, Option, Some, None, Bool, true, false, ◌||◌, if◌then◌else◌}
use Rattle.my_grammar.specs.declared.login.Login.{Login}
use Rattle.my_reading.specs.declared.call.Call.{Call}
use Rattle.my_reading.specs.Calls.{kind_of, is_unrefused}
use Rattle.my_reading.specs.Course.{Halt, halt, Returns, course}
use Rattle.my_reading.specs.Errors.{connection_closed}
use Rattle.my_reading.specs.Place.{Place, first_place, with_bytes}
use Rattle.my_reading.specs.Tape.{Tape, Span, spans}
use Rattle.my_reading.specs.Told.{Told, ToldReady, ToldError, closes}

-- what a call on a closed session returns
abbrev pub closed_answer : Call → Told
closed_answer call = if is_unrefused (kind_of call) then ToldReady else ToldError connection_closed

-- what a call comes to from the place before it, on a closed session and on an open one
abbrev pub halt_of : Login → Bool → Span → Place → Halt
halt_of login true s p = halt (with_bytes s.sent s.taken p) (Returns (closed_answer s.call))
halt_of login false s p = course login s.call (with_bytes s.sent s.taken p)

-- a call that ended may close the session; one that is open doesn't
abbrev pub is_closing : Call → Option Told → Bool
is_closing call None = false
is_closing call (Some t) = closes t (kind_of call)

-- a call as it was read: whether the session was closed before it, and what it comes to
pub record ReadCall : Type 0 where
  pub span : Span
  pub closed : Bool
  pub halt : Halt

-- the calls, and where the reading stands after them
pub record Reading : Type 0 where
  pub calls : List ReadCall
  pub place : Place
  pub closed : Bool

abbrev pub with_call : ReadCall → Reading → Reading
with_call c r = record { calls = c ∷ r.calls; place = r.place; closed = r.closed }

unfoldable pub read_calls : Login → List Span → Bool → Place → Reading
read_calls login [] closed p = record { calls = []; place = p; closed = closed }
read_calls login (s ∷ ss) closed p =
    with_call (record { span = s; closed = closed; halt = halt_of login closed s p })
    (read_calls login ss (closed || is_closing s.call s.ending) (halt_of login closed s p).place)

-- The reading.
unfoldable pub reading : Login → Tape → Reading
reading login t = read_calls login (spans t) false (first_place login)
