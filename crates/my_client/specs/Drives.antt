-- What a poll of the open call does, once what it returned is kept, and what a cancelling leaves.
use Rattle.std.specs.Prelude.{◌≡◌, ◌&&◌, Bool, not}
use Rattle.my_grammar.specs.declared.login.Login.{Login}
use Rattle.my_link.specs.declared.met.Met.{Met}
use Rattle.my_link.specs.Looks.{Looks}
use Rattle.my_reading.specs.Calls.{kind_of}
use Rattle.my_reading.specs.Endings.{closes_cancelled}
use Rattle.my_session.specs.Sessions.{Seen}
use Rattle.my_client.specs.declared.poll.After.{After}
use Rattle.my_client.specs.declared.tape.Said.TheVariants as says
use Rattle.my_client.specs.Kept.{Asked, Kept, ended_by}
use Rattle.my_client.specs.Reads.{place_kept}
use Rattle.my_client.specs.Polls.{IsPolled}
use Rattle.my_client.specs.Stands.{Stands}
use Rattle.my_client.specs.Turns.{WaitsBy}

-- The poll, and the session after it: it is where the reading of what is kept is, and where the call is still open it waits for
-- its link.
pub record Drives (login : Login) (a : Asked) (t : Seen) (x y : Looks) (k end : Kept) (m : Met) (after : After) : Type 0 where
  pub polled : IsPolled login a k x m after end y
  pub stands : Stands login t end
  pub waits : WaitsBy login t end a after

-- whether a cancelling closed the session
abbrev pub closes_by : Seen → Seen → Bool
closes_by s t = t.closed && not s.closed

-- what a cancelling leaves: it closes the session where the reading says so, and the session is where the reading is
pub record CancelLeaves (login : Login) (s t : Seen) (k : Kept) (a : Asked) : Type 0 where
  pub closes : closes_by s t ≡ closes_cancelled (kind_of a.call) (place_kept login k)
  pub stands : Stands login t (ended_by k a (says.Cancelled (closes_by s t)))
