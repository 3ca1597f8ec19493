-- What the layer above reads of a pool: where the connection of a number is, and what the request of an age holds.
use Rattle.std.specs.Prelude.{◌≡◌, ℕ, ◌≤◌, Bool, true, false, Option, Some, None, option_map, find}
use Rattle.my_pool_parts.specs.declared.connection.Place.{Place}
use Rattle.my_pool_parts.specs.declared.connection.Place.TheVariants.{Idle, Leased, Connecting, Checking, Returned, Cleaning, Resetting, Closing}
use Rattle.my_pool_parts.specs.declared.connection.PlaceKind.{PlaceKind}
use Rattle.my_pool_parts.specs.declared.request.Standing.{Standing}
use Rattle.my_pool_parts.specs.declared.request.Standing.TheVariants.{Asks, Waits, Woken, Dials, Checks}
use Rattle.my_pool_parts.specs.Lists.{found_is}
use Rattle.my_pool_parts.specs.Connections.{is_kind, has_number, is_leased_place, is_working_place, mark_of_place}
use Rattle.my_pool_parts.specs.Requests.{has_age}
use Rattle.my_pool_core.specs.State.{State}

-- where the connection of a number is; none where it isn't counted
abbrev pub place_at : ℕ → State → Option Place
place_at number s = option_map (λ c. c.place) (find (has_number number) s.connections)

-- a place at which neither a caller nor a request has the connection: the layer above keeps it
abbrev pub is_home_place : Place → Bool
is_home_place (Idle times) = true
is_home_place Leased = false
is_home_place Connecting = false
is_home_place Checking = false
is_home_place (Returned marked) = true
is_home_place (Cleaning marked) = true
is_home_place Resetting = true
is_home_place Closing = true

-- a place at which a request has it
abbrev pub is_held_place : Place → Bool
is_held_place Connecting = true
is_held_place Checking = true
is_held_place _ = false

-- whether the connection of a number is at such a place, and whether it is being cleaned, reset or closed
abbrev pub is_home : ℕ → State → Bool
is_home number s = found_is is_home_place (place_at number s)

abbrev pub is_working : ℕ → State → Bool
is_working number s = found_is is_working_place (place_at number s)

-- whether it is leased
abbrev pub is_lease : ℕ → State → Bool
is_lease number s = found_is is_leased_place (place_at number s)

-- whether it is marked
abbrev pub mark_at : ℕ → State → Bool
mark_at number s = found_is mark_of_place (place_at number s)

-- whether the connection of a number is at a place of a kind
abbrev pub is_at : PlaceKind → ℕ → State → Bool
is_at kind number s = found_is (is_kind kind) (place_at number s)

-- the least such number that isn't below another one
pub record IsNextAt (kind : PlaceKind) (from number : ℕ) (s : State) : Type 0 where
  pub above : from ≤ number
  pub there : is_at kind number s ≡ true
  pub least : (other : ℕ) → from ≤ other → is_at kind other s ≡ true → number ≤ other

-- there is none
pub record IsNoneAt (kind : PlaceKind) (from : ℕ) (s : State) : Type 0 where
  pub none : (other : ℕ) → from ≤ other → is_at kind other s ≡ false

-- what a live request holds: nothing, a connection that it makes, or one that it looks at
pub data Token : Type 0 where
  Free : Token
  Making : (number : ℕ) → Token
  Looking : (number : ℕ) → Token

abbrev pub token_of : Standing → Token
token_of Asks = Free
token_of Waits = Free
token_of Woken = Free
token_of (Dials number) = Making number
token_of (Checks number) = Looking number

-- what the request of an age holds; none where it isn't live
abbrev pub token : ℕ → State → Option Token
token age s = option_map (λ r. token_of r.standing) (find (has_age age) s.requests)

-- the number of the connection
abbrev pub number_in : Token → Option ℕ
number_in Free = None
number_in (Making number) = Some number
number_in (Looking number) = Some number
