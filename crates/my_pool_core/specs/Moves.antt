-- What each event does with the request of one age and with the connection of one number, whichever it is.
use Rattle.std.specs.Prelude.{◌≡◌, ℕ, ◌-◌, Bool, true, false, ◌||◌, ◌&&◌, ◌==◌, not, nat_lt, ◌⊎◌, Option, Some, None, if◌then◌else◌}
use Rattle.my_pool_parts.specs.declared.connection.Place.{Place}
use Rattle.my_pool_parts.specs.declared.connection.Place.TheVariants.{Idle, Leased, Connecting, Checking, Returned, Cleaning, Resetting, Closing}
use Rattle.my_pool_parts.specs.declared.connection.Times.{Times}
use Rattle.my_pool_core.specs.declared.event.Facts.{Facts}
use Rattle.my_pool_core.specs.declared.event.PollAnswer.{PollAnswer}
use Rattle.my_pool_core.specs.declared.event.PollAnswer.TheVariants.{Wait, Take, Dial, Closed, Full}
use Rattle.my_pool_core.specs.declared.event.Verdict.{Verdict}
use Rattle.my_pool_core.specs.declared.event.Verdict.TheVariants.{Drop, Clean, Close, Reset, Keep}
use Rattle.my_pool_core.specs.declared.event.PoolEvent.{PoolEvent}
use Rattle.my_pool_core.specs.declared.event.PoolEvent.TheVariants as events
use Rattle.my_pool_parts.specs.Lists.{found_is}
use Rattle.my_pool_parts.specs.Connections.{is_idle_place, is_leased_place, is_returned_place, is_cleaning_place, is_resetting_place, is_closing_place, is_past, is_over}
use Rattle.my_pool_parts.specs.Requests.{last_age}
use Rattle.my_pool_core.specs.State.{State}
use Rattle.my_pool_core.specs.Events.{request_age, poll_request, take_returned, decide, done, resting, times_of}
use Rattle.my_pool_core.specs.Owners.{Token, Free, Making, Looking, token, place_at, is_home, is_lease, is_held_place, mark_at}

-- ---- requests ----

-- a request that ended isn't live any more, but that of the last age, which asks again
abbrev pub ended_token : ℕ → Option Token
ended_token age = if age == last_age then Some Free else None

-- what a polled request holds then
abbrev pub polled_token : ℕ → PollAnswer → Option Token
polled_token age Wait = Some Free
polled_token age (Take number) = Some (Looking number)
polled_token age (Dial number) = Some (Making number)
polled_token age Closed = ended_token age
polled_token age (Full waiting limit) = ended_token age

-- a request whose connection isn't good ends where it was making it, and holds nothing where it was looking at it
abbrev pub failed_token : ℕ → Option Token → Option Token
failed_token age (Some (Looking number)) = Some Free
failed_token age (Some (Making number)) = ended_token age
failed_token age (Some Free) = ended_token age
failed_token age None = ended_token age

-- what the request of an age holds after an event
abbrev pub token_after : State → PoolEvent → ℕ → Option Token
token_after s events.Request age = if age == request_age s then Some Free else token age s
token_after s (events.PollRequest polled now) age =
    if age == polled then polled_token polled (poll_request polled now s).answer else token age s
token_after s (events.Cancel gone) age = if age == gone then ended_token gone else token age s
token_after s (events.Ready gone number) age = if age == gone then ended_token gone else token age s
token_after s (events.Failed failed number) age =
    if age == failed then failed_token failed (token failed s) else token age s
token_after s (events.GiveBack number) age = token age s
token_after s (events.Detach number) age = token age s
token_after s events.TakeReturned age = token age s
token_after s (events.Decide number facts now) age = token age s
token_after s (events.Done number ok facts now) age = token age s
token_after s (events.CheckTtl now) age = token age s
token_after s events.Close age = token age s
token_after s events.PollDisconnect age = token age s

-- ---- connections ----

-- a connection from a place that passes a test comes to a place, or is no longer counted where that is none; each
-- other connection stays where it was
pub record IsMove (from : Place → Bool) (number : ℕ) (to : Option Place) (s t : State) : Type 0 where
  pub was : found_is from (place_at number s) ≡ true
  pub there : place_at number t ≡ to
  pub others : (m : ℕ) → (m == number) ≡ false → place_at m t ≡ place_at m s

-- each connection stays where it was
pub record IsStill (s t : State) : Type 0 where
  pub each : (m : ℕ) → place_at m t ≡ place_at m s

-- a connection stays where it was, or was idle with times that pass a test and is returned now
abbrev pub MayReturn : (Times → Bool) → Bool → Option Place → Option Place → Type 0
MayReturn test marked before later =
    (later ≡ before)
    ⊎ ((times : Times) × (before ≡ Some (Idle times)) × (test times ≡ true) × (later ≡ Some (Returned marked)))

-- the same of each connection
pub record IsAging (test : Times → Bool) (marked : Bool) (s t : State) : Type 0 where
  pub each : (m : ℕ) → MayReturn test marked (place_at m s) (place_at m t)

-- the same of each connection but one, which comes from a place that passes a test, or none, to another
pub record IsAgingMove (test : Times → Bool) (was to : Option Place) (number : ℕ) (s t : State) : Type 0 where
  pub before : place_at number s ≡ was
  pub there : place_at number t ≡ to
  pub others : (m : ℕ) → (m == number) ≡ false → MayReturn test false (place_at m s) (place_at m t)

-- an idle connection that is usable is taken
pub record IsTaken (now number : ℕ) (s t : State) : Type 0 where
  pub times : Times
  pub usable : is_over now times ≡ false
  pub moves : IsAgingMove (is_over now) (Some (Idle times)) (Some Checking) number s t

-- what a poll does with the connections: as a request looks for one, expired idle ones may be returned
abbrev pub PolledPlaces : ℕ → PollAnswer → State → State → Type 0
PolledPlaces now Wait s t = IsAging (is_over now) false s t
PolledPlaces now (Take number) s t = IsTaken now number s t
PolledPlaces now (Dial number) s t = IsAgingMove (is_over now) None (Some Connecting) number s t
PolledPlaces now Closed s t = IsStill s t
PolledPlaces now (Full waiting limit) s t = IsAging (is_over now) false s t

-- the connection that a request held, if any, is no longer counted
abbrev pub CancelledPlaces : Option Token → State → State → Type 0
CancelledPlaces None s t = IsStill s t
CancelledPlaces (Some Free) s t = IsStill s t
CancelledPlaces (Some (Making number)) s t = IsMove is_held_place number None s t
CancelledPlaces (Some (Looking number)) s t = IsMove is_held_place number None s t

-- a connection that waits to be cleaned: a returned one, and where the pool is closed an idle one
abbrev pub is_due_place : Bool → Place → Bool
is_due_place closed place = is_returned_place place || (closed && is_idle_place place)

-- the next connection to be cleaned, if any, is being cleaned, and keeps its mark
abbrev pub TakenPlaces : Option ℕ → State → State → Type 0
TakenPlaces None s t = IsStill s t
TakenPlaces (Some number) s t =
    IsMove (is_due_place s.closed) number (Some (Cleaning (mark_at number s))) s t

-- the place that a verdict gives a connection
abbrev pub verdict_place : Verdict → Option Place → Facts → ℕ → Option Place
verdict_place Drop before facts now = None
verdict_place Clean before facts now = before
verdict_place Close before facts now = Some Closing
verdict_place Reset before facts now = Some Resetting
verdict_place Keep before facts now = Some (resting facts now)

-- a place at which a reset, a close, or a cleaning that failed comes to its end
abbrev pub is_ending_place : Bool → Place → Bool
is_ending_place ok place = is_resetting_place place || is_closing_place place || (is_cleaning_place place && not ok)

-- an idle connection whose time is over: above its deadline, or idle for too long
abbrev pub is_aged : ℕ → ℕ → Times → Bool
is_aged now inactive times = is_past now times.deadline || nat_lt inactive (now - times.since)

-- what an event does with the connections
abbrev pub PlacesMove : State → PoolEvent → State → Type 0
PlacesMove s events.Request t = IsStill s t
PlacesMove s (events.PollRequest age now) t = PolledPlaces now (poll_request age now s).answer s t
PlacesMove s (events.Cancel age) t = CancelledPlaces (token age s) s t
PlacesMove s (events.Ready age number) t = IsMove is_held_place number (Some Leased) s t
PlacesMove s (events.Failed age number) t = IsMove is_held_place number None s t
PlacesMove s (events.GiveBack number) t = IsMove is_leased_place number (Some (Returned false)) s t
PlacesMove s (events.Detach number) t = IsMove is_leased_place number None s t
PlacesMove s events.TakeReturned t = TakenPlaces (take_returned s).answer s t
PlacesMove s (events.Decide number facts now) t =
    let verdict = (decide number facts now s).answer in
    IsMove is_cleaning_place number (verdict_place verdict (place_at number s) facts now) s t
PlacesMove s (events.Done number ok facts now) t =
    let verdict = (done number ok facts now s).answer in
    IsMove (is_ending_place ok) number (verdict_place verdict (place_at number s) facts now) s t
PlacesMove s (events.CheckTtl now) t = IsAging (is_aged now s.limits.inactive) true s t
PlacesMove s events.Close t = IsStill s t
PlacesMove s events.PollDisconnect t = IsStill s t

-- ---- what follows for the layer above ----

abbrev pub takes_number : ℕ → PollAnswer → Bool
takes_number number (Take taken) = number == taken
takes_number number _ = false

abbrev pub is_drop : Verdict → Bool
is_drop Drop = true
is_drop _ = false

-- whether the layer above keeps the connection of a number after an event: a poll takes it out, a verdict lets it go,
-- and one that comes back is put in
abbrev pub home_after : State → PoolEvent → ℕ → Bool
home_after s (events.PollRequest age now) number =
    is_home number s && not (takes_number number (poll_request age now s).answer)
home_after s (events.GiveBack back) number = number == back || is_home number s
home_after s (events.Decide decided facts now) number =
    is_home number s && not (number == decided && is_drop (decide decided facts now s).answer)
home_after s (events.Done ended ok facts now) number =
    is_home number s && not (number == ended && is_drop (done ended ok facts now s).answer)
home_after s events.Request number = is_home number s
home_after s (events.Cancel age) number = is_home number s
home_after s (events.Ready age ready) number = is_home number s
home_after s (events.Failed age failed) number = is_home number s
home_after s (events.Detach gone) number = is_home number s
home_after s events.TakeReturned number = is_home number s
home_after s (events.CheckTtl now) number = is_home number s
home_after s events.Close number = is_home number s
home_after s events.PollDisconnect number = is_home number s

-- whether the connection of a number is leased after an event
abbrev pub lease_after : State → PoolEvent → ℕ → Bool
lease_after s (events.Ready age ready) number = number == ready || is_lease number s
lease_after s (events.GiveBack back) number = is_lease number s && not (number == back)
lease_after s (events.Detach gone) number = is_lease number s && not (number == gone)
lease_after s events.Request number = is_lease number s
lease_after s (events.PollRequest age now) number = is_lease number s
lease_after s (events.Cancel age) number = is_lease number s
lease_after s (events.Failed age failed) number = is_lease number s
lease_after s events.TakeReturned number = is_lease number s
lease_after s (events.Decide decided facts now) number = is_lease number s
lease_after s (events.Done ended ok facts now) number = is_lease number s
lease_after s (events.CheckTtl now) number = is_lease number s
lease_after s events.Close number = is_lease number s
lease_after s events.PollDisconnect number = is_lease number s

-- whether an event decides on the connection of a number
abbrev pub is_verdict_on : ℕ → PoolEvent → Bool
is_verdict_on number (events.Decide decided facts now) = number == decided
is_verdict_on number (events.Done ended ok facts now) = number == ended
is_verdict_on number _ = false

-- whether an event keeps the connection of a number, which is idle with these times from now on
abbrev pub IsKeeping : ℕ → Times → State → PoolEvent → Type 0
IsKeeping number times s (events.Decide decided facts now) =
    (number ≡ decided) × ((decide decided facts now s).answer ≡ Keep) × (times ≡ times_of facts now)
IsKeeping number times s (events.Done ended ok facts now) =
    (number ≡ ended) × (ok ≡ true) × ((done ended ok facts now s).answer ≡ Keep) × (times ≡ times_of facts now)
IsKeeping number times s events.Request = ⊥
IsKeeping number times s (events.PollRequest age now) = ⊥
IsKeeping number times s (events.Cancel age) = ⊥
IsKeeping number times s (events.Ready age ready) = ⊥
IsKeeping number times s (events.Failed age failed) = ⊥
IsKeeping number times s (events.GiveBack back) = ⊥
IsKeeping number times s (events.Detach gone) = ⊥
IsKeeping number times s events.TakeReturned = ⊥
IsKeeping number times s (events.CheckTtl now) = ⊥
IsKeeping number times s events.Close = ⊥
IsKeeping number times s events.PollDisconnect = ⊥
