-- One poll of the open call: each move of its link stands in its turn by the reading of the tape, and what the poll returns.
use Rattle.std.specs.Prelude.{ℕ, ◌≡◌, ◌≤◌, nat_le, List, [], ◌∷◌, length, Option, Some, None, true, if◌then◌else◌}
use Rattle.my_frame.specs.declared.limits.TheConstants.{MOST_TAKEN}
use Rattle.my_grammar.specs.declared.login.Login.{Login}
use Rattle.my_link.specs.declared.met.Met.{Met}
use Rattle.my_link.specs.Looks.{Looks}
use Rattle.my_link.specs.Met.{nothing_met}
use Rattle.my_link.specs.Moves.{Move, Received, Sent, Leads, received_by, Stop as LinkStop, NoStop, ReadHold, WriteHold, ReadFault, WriteFault, LinkEnd, StopsAt, faults_at, holds_at, ends_at}
use Rattle.my_reading.specs.declared.error.IoKind.TheVariants.{Link}
use Rattle.my_reading.specs.Course.{Stop, Owes, Awaits, Returns}
use Rattle.my_reading.specs.Errors.{io_error, unexpected_eof}
use Rattle.my_reading.specs.Place.{begins_with, owed}
use Rattle.my_reading.specs.Told.{Told, ToldError, told}
use Rattle.my_client.specs.declared.poll.After.{After}
use Rattle.my_client.specs.declared.poll.After.TheVariants.{Pending, Answered, Failed}
use Rattle.my_client.specs.Ends.{kept_after}
use Rattle.my_client.specs.Kept.{Asked, Kept}
use Rattle.my_client.specs.Notes.{with_sent, with_taken}
use Rattle.my_client.specs.Reads.{facts_kept, place_kept, stop_kept}

-- what is kept with the bytes of a move, and of all moves, the newest first
abbrev pub moved_on : Kept → Move → Kept
moved_on k (Received bytes) = with_taken k bytes
moved_on k (Sent offered bytes) = with_sent k bytes

abbrev pub moved_by : Kept → List Move → Kept
moved_by k [] = k
moved_by k (m ∷ ms) = moved_on (moved_by k ms) m

-- the link is read where the call awaits bytes, and is sent the first of the bytes that the call owes
abbrev pub IsInTurn : Login → Kept → Move → Type 0
IsInTurn login k (Received bytes) = stop_kept login k ≡ Some Awaits
IsInTurn login k (Sent offered bytes) = (stop_kept login k ≡ Some Owes) × (begins_with (owed (place_kept login k)) bytes ≡ true)

abbrev pub AreInTurn : Login → Kept → List Move → Type 0
AreInTurn login k [] = Unit {0}
AreInTurn login k (m ∷ ms) = AreInTurn login k ms × IsInTurn login (moved_by k ms) m

-- no answer yet, where the poll received all bytes that one poll may
abbrev pub if_full : ℕ → Option (Option Told)
if_full taken = if nat_le MOST_TAKEN taken then Some None else None

-- What a poll that received n bytes returns, by what stopped it at the link and by where the reading stops: an answer, or none yet. No
-- other stop ends a poll.
abbrev pub comes_to : LinkStop → Option Stop → ℕ → ℕ → Option (Option Told)
comes_to NoStop (Some (Returns t)) n place = Some (Some t)
comes_to NoStop (Some Awaits) n place = if_full n
comes_to ReadHold (Some Awaits) n place = Some None
comes_to WriteHold (Some Owes) n place = Some None
comes_to ReadFault (Some Awaits) n place = Some (Some (ToldError (io_error Link place)))
comes_to WriteFault (Some Owes) n place = Some (Some (ToldError (io_error Link place)))
comes_to LinkEnd (Some Awaits) n place = Some (Some (ToldError (unexpected_eof place)))
comes_to _ _ n place = None

-- the same, of what was kept
abbrev pub comes_at : Login → Kept → LinkStop → ℕ → Option (Option Told)
comes_at login k stop n = comes_to stop (stop_kept login k) n (facts_kept login k).place

abbrev pub told_of : After → Option Told
told_of Pending = None
told_of (Answered answer) = Some (told answer)
told_of (Failed e) = Some (ToldError e)

-- what is met in these moves and at this stop
abbrev pub met_in : List Move → LinkStop → Met
met_in moves stop = record nothing_met {
  taken = length (received_by moves);
  faults = faults_at stop;
  holds = holds_at stop;
  ends = ends_at stop;
}

-- The link did these moves, each in its turn, and stopped the poll so; and the poll returned what that says.
pub record IsPolled (login : Login) (a : Asked) (k : Kept) (x : Looks) (u : Met) (after : After) (end : Kept) (y : Looks)
    : Type 0 where
  pub moves : List Move
  pub stop : LinkStop
  pub moved : Looks
  pub leads : Leads moves x moved
  pub stops : StopsAt stop moved y
  pub turns : AreInTurn login k moves
  pub met : u ≡ met_in moves stop
  pub within : u.taken ≤ MOST_TAKEN
  pub comes : comes_at login (moved_by k moves) stop u.taken ≡ Some (told_of after)
  pub ends : end ≡ kept_after (moved_by k moves) a after
