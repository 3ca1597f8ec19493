-- The requests whose wakers are kept, by their ages.
use Rattle.std.specs.Prelude.{◌≡◌, ℕ, Bool, true, false, ◌||◌, ◌==◌, Option, Some, None, List, [], ◌∷◌, ◌++◌, if◌then◌else◌}
use Rattle.std.specs.List.{filter, list_all}
use Rattle.my_frame.specs.Lists.{without}
use Rattle.my_pool_parts.specs.Lists.{found_is}
use Rattle.my_pool_core.specs.State.{State}
use Rattle.my_pool_core.specs.Wakes.{waits}

-- the ages, in the order in which the wakers were kept, and for how many there is room
pub record Called : Type 0 where
  pub ages : List ℕ
  pub room : ℕ

-- those that wait still
abbrev pub waiting : State → List ℕ → List ℕ
waiting s ages = filter (λ a. waits a s) ages

-- each waits, but perhaps the one of an age
abbrev pub WaitBeside : Option ℕ → State → List ℕ → Type 0
WaitBeside one s ages = list_all (λ a. found_is (λ age. age == a) one || waits a s) ages ≡ true

-- the wakers that are kept once that of an age was called, unless its request waits
abbrev pub called_at : Option ℕ → State → List ℕ → List ℕ
called_at None s ages = ages
called_at (Some age) s ages = if waits age s then ages else without (λ a. a == age) ages

-- and once each was called, where the pool is closed
abbrev pub called_closed : State → List ℕ → List ℕ
called_closed s ages = if s.closed then [] else ages

-- with the one of an age, where its waker is kept
abbrev pub kept_for : ℕ → Bool → List ℕ → List ℕ
kept_for age true ages = ages ++ age ∷ []
kept_for age false ages = ages
