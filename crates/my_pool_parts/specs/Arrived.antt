-- Connections in the order of their arrival, as a list that has the one that moved last in front.
use Rattle.std.specs.Prelude.{◌≡◌, ℕ, ◌+◌, ◌<◌, ◌≤◌, ◌^◌, Option, Some, None, List, [], ◌∷◌, ◌++◌, nat_eq}
use Rattle.std.specs.Map.{lookup}
use Rattle.my_pool_parts.specs.declared.connection.Connection.{Connection}
use Rattle.my_pool_parts.specs.declared.connection.Place.{Place}
use Rattle.my_pool_parts.specs.Connections.{placed}

-- what is seen: the connections, the next number, and how many numbers from it on have their memory
pub record Arrived : Type 0 where
  pub list : List Connection
  pub next : ℕ
  pub coming : ℕ

abbrev pub arrived : List Connection → ℕ → ℕ → Arrived
arrived cs next coming = record { list = cs; next = next; coming = coming }

-- a number comes after these, where it has a place
abbrev pub then_at : List Connection → ℕ → Option Place → List Connection
then_at cs number None = cs
then_at cs number (Some place) = cs ++ placed number place ∷ []

-- the connections of a list of places, the one in front last
abbrev pub counted : List (ℕ × Option Place) → List Connection
counted [] = []
counted (e ∷ es) = then_at (counted es) e.0 e.1

-- each number once
abbrev pub IsApart : List (ℕ × Option Place) → Type 0
IsApart [] = Unit {0}
IsApart (e ∷ es) = (lookup (nat_eq e.0) es ≡ None) × IsApart es

pub record IsArrived (es : List (ℕ × Option Place)) (next coming : ℕ) : Type 0 where
  pub apart : IsApart es
  pub limited : next + coming < 2 ^ 64
  pub ready : (n : ℕ) → next ≤ n → n < next + coming → lookup (nat_eq n) es ≡ Some None
  pub fresh : (n : ℕ) → next + coming ≤ n → lookup (nat_eq n) es ≡ None
  pub earlier : (n : ℕ) → n < next → lookup (nat_eq n) es ≡ Some None → ⊥
