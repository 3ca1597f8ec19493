-- The live requests beside the heap of those that wait.
use Rattle.std.specs.Prelude.{◌≡◌, ℕ, ◌+◌, ◌^◌, ◌<◌, ◌≤◌, Option, Some, None, List, [], ◌∷◌, ◌++◌, length, map, slice_index, if◌then◌else◌}
use Rattle.my_pool_parts.specs.Ages.{age_of, how_many as how_many_held}
use Rattle.my_pool_parts.specs.declared.request.Request.{Request}
use Rattle.my_pool_parts.specs.declared.seat.Seat.{Seat}
use Rattle.my_pool_parts.specs.Lists.{how_many}
use Rattle.my_pool_parts.specs.Requests.{is_waiting, is_dialing, is_queued, IsRising}

-- the age of a request where it waits
abbrev pub age_if : Request → Option ℕ
age_if r = if is_waiting r then Some r.age else None

-- Each request has a slot of the heap, and what is left of the slots is free. A slot is held by the age of its request
-- where that one waits. So as many slots are held as requests wait.
pub record IsQueue (ages : List (Option ℕ)) (slots : List ℕ) (held : List (Option ℕ)) : Type 0 where
  pub few : length ages ≤ length slots
  pub full : length slots ≤ length held
  pub reserved : (i : ℕ) → i < length slots → slice_index slots i < length slots
  pub apart : (i j : ℕ) → i < length slots → j < length slots → slice_index slots i ≡ slice_index slots j → i ≡ j
  pub linked : (i : ℕ) → i < length slots → age_of held (slice_index slots i) ≡ age_of ages i
  pub found : (s a : ℕ) → age_of held s ≡ Some a → (i : ℕ) × (i < length slots) × (slice_index slots i ≡ s)
  pub counted : how_many_held held ≡ how_many_held ages

-- the ages rise, and it is counted how many make a connection and how many wait or were woken
pub record IsLive (rs : List Request) (slots : List ℕ) (held : List (Option ℕ)) (dialing queued : ℕ) : Type 0 where
  pub rising : IsRising 0 rs
  pub dialing_counted : dialing ≡ how_many is_dialing rs
  pub queued_counted : queued ≡ how_many is_queued rs
  pub queue : IsQueue (map age_if rs) slots held

-- the requests of a map by age, and their slots
abbrev pub requests_of : List (ℕ × Seat) → List Request
requests_of es = map (λ e. e.1.request) es

abbrev pub slots_of : List (ℕ × Seat) → List ℕ
slots_of es = map (λ e. e.1.slot) es

-- each request is under its own age
abbrev pub IsKeyed : List (ℕ × Seat) → Type 0
IsKeyed [] = Unit {0}
IsKeyed (e ∷ es) = (e.0 ≡ e.1.request.age) × IsKeyed es

-- a map of requests beside the free slots, of which there may be as many as there are slots
pub record IsSeated (es : List (ℕ × Seat)) (free : List ℕ) (room : ℕ) (held : List (Option ℕ)) (dialing queued : ℕ)
    : Type 0 where
  pub keyed : IsKeyed es
  pub live : IsLive (requests_of es) (slots_of es ++ free) held dialing queued
  pub roomy : length es + length free ≤ room
  pub small : room < 2 ^ 63
