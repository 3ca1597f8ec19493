-- How a call may end by the reading: each answer exactly where the call comes to it.
use Rattle.std.specs.Prelude.{◌≡◌, ℕ, List, [], ◌∷◌, Option, Some, None, Bool, true, false, not, ◌||◌, ◌&&◌}
use Rattle.my_grammar.specs.declared.login.Login.{Login}
use Rattle.my_grammar.specs.declared.spot.Spot.{Spot}
use Rattle.my_grammar.specs.declared.spot.Spot.TheVariants as spots
use Rattle.my_grammar.specs.Talk.{context_of}
use Rattle.my_reading.specs.declared.call.CallKind.{CallKind}
use Rattle.my_reading.specs.declared.call.CallKind.TheVariants.{NextRow, DropResult, TakeSet, SkipTaken}
use Rattle.my_reading.specs.declared.error.IoKind.TheVariants.{Link}
use Rattle.my_reading.specs.Calls.{kind_of, is_connect}
use Rattle.my_reading.specs.Course.{Stop, Owes, Awaits, Returns}
use Rattle.my_reading.specs.Errors.{io_error, unexpected_eof}
use Rattle.my_reading.specs.Order.{IsInOrder}
use Rattle.my_reading.specs.Place.{Place, exchanges, facts_at, client_side, begins_with}
use Rattle.my_reading.specs.Reading.{ReadCall, reading}
use Rattle.my_reading.specs.Tape.{Tape}
use Rattle.my_reading.specs.Told.{Told, ToldError, Dropped}

-- where the head of a further set is awaited, or a part of it
abbrev pub awaits_head : Spot → Bool
awaits_head spots.Idle = false
awaits_head spots.Rows = false
awaits_head s = true

-- Cancelling a call closes the session, but for one that reads or passes over sets and awaits no head.
abbrev pub closes_cancelled : CallKind → Place → Bool
closes_cancelled NextRow p = awaits_head (context_of p.talk).spot
closes_cancelled DropResult p = awaits_head (context_of p.talk).spot
closes_cancelled TakeSet p = awaits_head (context_of p.talk).spot
closes_cancelled SkipTaken p = awaits_head (context_of p.talk).spot
closes_cancelled c p = true

-- the error of a link that failed, and of one that ended, where the call stands
abbrev pub link_failure : Login → ReadCall → Option Told
link_failure login c = Some (ToldError (io_error Link (facts_at login c.halt.place).place))

abbrev pub link_end : Login → ReadCall → Option Told
link_end login c = Some (ToldError (unexpected_eof (facts_at login c.halt.place).place))

abbrev pub cancelling : ReadCall → Option Told
cancelling c = Some (Dropped (closes_cancelled (kind_of c.span.call) c.halt.place))

-- While bytes are owed or awaited a call is open, was cancelled, or its link failed; while they are awaited its link may have ended.
pub data IsCut (login : Login) (c : ReadCall) : Type 0 where
  IsOpen : c.span.ending ≡ None → IsCut login c
  IsCancelled : c.span.ending ≡ cancelling c → IsCut login c
  IsLinkFailure : c.span.ending ≡ link_failure login c → IsCut login c
  IsLinkEnd : c.halt.stop ≡ Awaits → c.span.ending ≡ link_end login c → IsCut login c

-- The call's ending is what it comes to.
abbrev pub Ends : Login → ReadCall → Stop → Type 0
Ends login c Owes = IsCut login c
Ends login c Awaits = IsCut login c
Ends login c (Returns t) = c.span.ending ≡ Some t

abbrev pub is_empty : List ℕ → Bool
is_empty [] = true
is_empty (b ∷ bytes) = false

-- on a closed session nothing is sent or received
abbrev pub is_quiet : ReadCall → Bool
is_quiet c = not c.closed || (is_empty c.span.sent && is_empty c.span.taken)

-- A call ended as it comes to, and what was sent by its end is a beginning of what the exchanges say.
pub record IsCall (login : Login) (c : ReadCall) : Type 0 where
  pub ends : Ends login c c.halt.stop
  pub sent : begins_with (client_side (exchanges c.halt.place)) c.halt.place.sent ≡ true
  pub quiet : is_quiet c ≡ true

abbrev pub AreCalls : Login → List ReadCall → Type 0
AreCalls login [] = Unit {0}
AreCalls login (c ∷ cs) = IsCall login c × AreCalls login cs

-- the first call connects, and no other does
abbrev pub connects_none : List ReadCall → Bool
connects_none [] = true
connects_none (c ∷ cs) = not (is_connect (kind_of c.span.call)) && connects_none cs

abbrev pub connects_first : List ReadCall → Bool
connects_first [] = true
connects_first (c ∷ cs) = is_connect (kind_of c.span.call) && connects_none cs

-- The tape is one of a client that logs in so.
pub record IsTape (login : Login) (t : Tape) : Type 0 where
  pub first : connects_first (reading login t).calls ≡ true
  pub calls : AreCalls login (reading login t).calls
  pub order : IsInOrder t
