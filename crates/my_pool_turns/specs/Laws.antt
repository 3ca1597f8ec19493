-- What follows of a turn.
use Rattle.std.specs.Prelude.{◌≡◌, ◌==◌, ◌<◌, ℕ, Bool, true, false, List, [], ◌∷◌}
use Rattle.std.specs.List.{list_any}
use Rattle.my_pool_parts.specs.declared.connection.PlaceKind.{PlaceKind}
use Rattle.my_pool_parts.specs.Lists.{found_is}
use Rattle.my_pool_core.specs.Moves.{is_due_place}
use Rattle.my_pool_core.specs.Owners.{is_at, place_at}
use Rattle.my_pool_core.specs.State.{State}

-- no connection is left to be taken: none is returned, and where the pool is closed none is idle
abbrev pub NoneDue : State → Type 0
NoneDue s = (n : ℕ) → found_is (is_due_place s.closed) (place_at n s) ≡ false

abbrev pub is_among : ℕ → List ℕ → Bool
is_among n numbers = list_any (λ m. m == n) numbers

-- each is above those that follow it
abbrev pub AreFalling : List ℕ → Type 0
AreFalling [] = Unit {0}
AreFalling (n ∷ ns) = ((m : ℕ) → is_among m ns ≡ true → m < n) × AreFalling ns

-- These numbers, the newest first, are exactly those of the connections at the places of a kind, each of them once;
-- they rose.
pub record AreThose (kind : PlaceKind) (s : State) (numbers : List ℕ) : Type 0 where
  pub falling : AreFalling numbers
  pub exactly : (n : ℕ) → is_among n numbers ≡ is_at kind n s
