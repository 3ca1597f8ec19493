-- Where a session stands, by the reading of what its connection kept.
use Rattle.std.specs.Prelude.{◌≡◌, ◌⊎◌, length, drop, Option, Some, None, true, false}
use Rattle.my_grammar.specs.declared.login.Login.{Login}
use Rattle.my_machine.specs.declared.progress.Progress.{Progress}
use Rattle.my_machine.specs.Runs.{parts_left}
use Rattle.my_machine.specs.Stands.{IsAt}
use Rattle.my_reading.specs.Calls.{kind_of, is_unrefused}
use Rattle.my_reading.specs.Course.{Stop, Owes, Awaits, Stops, parts_of, step}
use Rattle.my_reading.specs.Leads.{Leads}
use Rattle.my_reading.specs.Place.{Place, begins_with, client_side, exchanges, with_bytes}
use Rattle.my_client.specs.declared.tape.Said.{Said}
use Rattle.my_client.specs.Kept.{Asked, Kept, ended_by, told_by}
use Rattle.my_client.specs.Reads.{ComesTo, EndedRead}
use Rattle.my_session.specs.Sessions.{Seen, first_opened}

-- what was sent by this place is a beginning of what its exchanges say
abbrev pub IsSaid : Place → Type 0
IsSaid p = begins_with (client_side (exchanges p)) p.sent ≡ true

-- No call is open: the session is where the reading of the calls stands, and closed where that is.
pub record StandsIdle (login : Login) (s : Seen) (k : Kept) : Type 0 where
  pub place : Place
  pub ended : EndedRead login k (length k.sent) (length k.taken) s.closed place
  pub at : IsAt login place s.stand
  pub idle : s.opened ≡ None

-- The open call: its steps lead from where it began, with the bytes since, to where the session is.
pub record StandsOpen (login : Login) (s : Seen) (k : Kept) (a : Asked) : Type 0 where
  pub before : Place
  pub ended : EndedRead login k a.sent_from a.taken_from false before
  pub unclosed : s.closed ≡ false
  pub sound : s.fault ≡ None
  pub progress : Progress
  pub opened : s.opened ≡ Some (record { call = a.call; progress = progress })
  pub place : Place
  pub leads : Leads login a.call (parts_of login a.call)
      (with_bytes (drop a.sent_from k.sent) (drop a.taken_from k.taken) before) (parts_left login a.call progress) place
  pub at : IsAt login place s.stand

-- A call that a closed session doesn't refuse, on one: nothing was sent or received since it began.
pub record StandsClosed (login : Login) (s : Seen) (k : Kept) (a : Asked) : Type 0 where
  pub before : Place
  pub ended : EndedRead login k a.sent_from a.taken_from true before
  pub closed : s.closed ≡ true
  pub sound : s.fault ≡ None
  pub opened : s.opened ≡ Some (first_opened a.call)
  pub unrefused : is_unrefused (kind_of a.call) ≡ true
  pub nothing_sent : a.sent_from ≡ length k.sent
  pub nothing_taken : a.taken_from ≡ length k.taken
  pub at : IsAt login before s.stand

abbrev pub StandsAt : Login → Seen → Kept → Option Asked → Type 0
StandsAt login s k None = StandsIdle login s k
StandsAt login s k (Some a) = StandsOpen login s k a ⊎ StandsClosed login s k a

-- The session stands where the reading of what was kept does. While it is open its link hasn't ended.
pub record Stands (login : Login) (s : Seen) (k : Kept) : Type 0 where
  pub login_is : s.login ≡ login
  pub alive : s.closed ≡ false → s.ended ≡ false
  pub at : StandsAt login s k k.pending

-- so it is while this call is open
pub record StandsAsked (login : Login) (s : Seen) (k : Kept) (a : Asked) : Type 0 where
  pub stands : Stands login s k
  pub asked : k.pending ≡ Some a

-- the open call was stepped, and stops for bytes: the reading of what was kept stands here
pub record Stopped (stop : Stop) (login : Login) (s : Seen) (k : Kept) (a : Asked) : Type 0 where
  pub stands : StandsAsked login s k a
  pub so_far : StandsOpen login s k a
  pub stops : step login a.call (parts_left login a.call so_far.progress) so_far.place ≡ Stops so_far.place stop

-- it waits for its link
abbrev pub Waits : Login → Seen → Kept → Asked → Type 0
Waits login s k a = Stopped Owes login s k a ⊎ Stopped Awaits login s k a

-- the open call, if there is one, waits for its link
abbrev pub WaitsIn : Login → Seen → Kept → Option Asked → Type 0
WaitsIn login s k None = Unit {0}
WaitsIn login s k (Some a) = Waits login s k a

-- between two polls
pub record Rests (login : Login) (s : Seen) (k : Kept) : Type 0 where
  pub stands : Stands login s k
  pub waits : WaitsIn login s k k.pending

-- the call returned what the reading says, and it is kept so
pub record Returned (login : Login) (s : Seen) (k : Kept) (a : Asked) (said : Said) : Type 0 where
  pub comes : ComesTo login k (told_by said)
  pub stands : Stands login s (ended_by k a said)
