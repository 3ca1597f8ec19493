-- What holds of each state of a pool.
use Rattle.std.specs.Prelude.{◌≡◌, ℕ, ◌+◌, ◌-◌, ◌<◌, ◌≤◌, Bool, true, false, ◌&&◌, ◌==◌, not, nat_le, List, [], ◌∷◌, length, if◌then◌else◌}
use Rattle.my_pool_parts.specs.declared.connection.Connection.{Connection}
use Rattle.my_pool_parts.specs.declared.request.Request.{Request}
use Rattle.my_pool_parts.specs.declared.request.Standing.{Standing}
use Rattle.my_pool_parts.specs.declared.request.Standing.TheVariants.{Dials, Checks}
use Rattle.my_pool_parts.specs.Lists.{how_many}
use Rattle.my_pool_parts.specs.Connections.{has_number, is_idle, is_connecting, is_checking}
use Rattle.my_pool_parts.specs.Requests.{IsRising, last_age, has_age, is_waiting, is_woken, is_asking, is_queued, may_dial}
use Rattle.my_pool_core.specs.State.{State}

-- a request that makes the connection of this number
abbrev pub dials_standing : ℕ → Standing → Bool
dials_standing number (Dials held) = held == number
dials_standing number _ = false

-- a request that looks at the connection of this number
abbrev pub checks_standing : ℕ → Standing → Bool
checks_standing number (Checks held) = held == number
checks_standing number _ = false

abbrev pub dials : ℕ → Request → Bool
dials number r = dials_standing number r.standing

abbrev pub checks : ℕ → Request → Bool
checks number r = checks_standing number r.standing

-- the connection of this number, being made
abbrev pub connects : ℕ → Connection → Bool
connects number c = is_connecting c && has_number number c

-- the connection of this number, being looked at
abbrev pub is_checked : ℕ → Connection → Bool
is_checked number c = is_checking c && has_number number c

-- a number that isn't below the next one
abbrev pub is_unnumbered : ℕ → Connection → Bool
is_unnumbered next c = nat_le next c.number

-- an age that is neither below the next one nor the last one
abbrev pub is_unborn : ℕ → Request → Bool
is_unborn next r = nat_le next r.age && not (r.age == last_age)

-- waiting or woken, and not marked as having waited
abbrev pub is_unmarked : Request → Bool
is_unmarked r = is_queued r && not r.waited

-- a request that may be given one more number
abbrev pub is_dialer : Request → Bool
is_dialer r = may_dial r && not (r.age == last_age)

-- the one of the last age, which waits, was woken or has a connection
abbrev pub is_last_busy : Request → Bool
is_last_busy r = not (is_asking r) && has_age last_age r

-- A state is sound. Each number and each age occurs once. Each connection that is being made or looked at has one
-- request that does it, and each such request has that connection. There are no more connections and no more idle
-- ones than may be, and there are numbers and room for those that may still be made.
pub record IsSound (s : State) : Type 0 where
  -- counted is at most `max`, and idle at most `bound`
  pub few : length s.connections ≤ s.limits.max
  pub few_idle : how_many is_idle s.connections ≤ s.limits.bound
  -- each number is counted at most once, and is below the next one
  pub once : (number : ℕ) → how_many (has_number number) s.connections ≤ 1
  pub numbered : how_many (is_unnumbered s.next_number) s.connections ≡ 0
  -- each age is live at most once, and is below the next one, but for the last one
  pub rising : IsRising 0 s.requests
  pub ages_left : s.next_age ≤ last_age
  pub born : how_many (is_unborn s.next_age) s.requests ≡ 0
  -- connecting and checking connections, and the requests that hold them
  pub made : (number : ℕ) → how_many (dials number) s.requests ≡ how_many (connects number) s.connections
  pub looked_at : (number : ℕ) → how_many (checks number) s.requests ≡ how_many (is_checked number) s.connections
  -- each waiting or woken request is marked as having waited
  pub marked : how_many is_unmarked s.requests ≡ 0
  -- numbers and room for the requests that may dial
  pub numbers_left : s.next_number + how_many is_dialer s.requests ≤ last_age
  pub room : how_many is_dialer s.requests ≤ s.spare
  -- where the pool is closed nobody waits; where it is settled it is closed and counts nothing
  pub none_waits : s.closed ≡ true → how_many is_waiting s.requests ≡ 0
  pub settled : s.settled ≡ true → (s.closed ≡ true) × (length s.connections ≡ 0)
  -- the last age closes the pool, and its request asks: it neither waits, nor was it woken, nor has it a connection
  pub last_closes : 0 < how_many (has_age last_age) s.requests → s.closed ≡ true
  pub last_asks : how_many is_last_busy s.requests ≡ 0

-- the woken requests before the first waiting one: those that are older than each that waits
abbrev pub woken_first : List Request → ℕ
woken_first [] = 0
woken_first (r ∷ rs) = if is_waiting r then 0 else (if is_woken r then 1 else 0) + woken_first rs

-- Where a pool is open and a request waits, the woken requests that are older than each waiting one are at least as
-- many as the idle connections and those that may still be made. So none waits in vain.
abbrev pub IsCovered : State → Type 0
IsCovered s =
    s.closed ≡ false → 0 < how_many is_waiting s.requests
    → how_many is_idle s.connections + (s.limits.max - length s.connections) ≤ woken_first s.requests

-- What a pool keeps of its memory beside its state: room for the counted connections and the spare ones, and memory
-- for as many coming numbers as requests may still dial.
pub record IsKept (s : State) (kept_room coming : ℕ) : Type 0 where
  pub sound : IsSound s
  pub reserved : length s.connections + s.spare ≤ kept_room
  pub expected : how_many is_dialer s.requests ≤ coming
