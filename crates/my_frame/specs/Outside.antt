-- What is known of a source or a sink: the count of its faults, and perhaps the bytes that it has left or took.
use Rattle.std.specs.Prelude.{◌≡◌, ℕ, ◌+◌, ◌-◌, ◌^◌, ◌≤◌, min, List, [], ◌++◌, Option, Some, None}

-- A count rose, or is the greatest that 64 bits hold. It did not fall.
abbrev pub Rose : ℕ → ℕ → Type 0
Rose before now = (before ≤ now) × (min (before + 1) (2 ^ 64 - 1) ≤ now)

-- these bytes left it, where it is known what it has left
abbrev pub Leaves : Option (List ℕ) → List ℕ → Option (List ℕ) → Type 0
Leaves None bytes None = Unit {0}
Leaves (Some before) bytes (Some now) = before ≡ bytes ++ now
Leaves None bytes (Some now) = ⊥
Leaves (Some before) bytes None = ⊥

-- these bytes came to it, where it is known what it took
abbrev pub Comes : Option (List ℕ) → List ℕ → Option (List ℕ) → Type 0
Comes None bytes None = Unit {0}
Comes (Some before) bytes (Some now) = now ≡ before ++ bytes
Comes None bytes (Some now) = ⊥
Comes (Some before) bytes None = ⊥

-- nothing is left of it, where that is known
abbrev pub IsOver : Option (List ℕ) → Type 0
IsOver None = Unit {0}
IsOver (Some left) = left ≡ []
