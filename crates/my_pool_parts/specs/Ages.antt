-- A heap as its callers see it: for each reserved slot the age that holds it, or none.
use Rattle.std.specs.Prelude.{◌≡◌, ◌≢◌, ℕ, ◌+◌, ◌<◌, Option, Some, None, List, [], ◌∷◌, slice_index_or}

-- the age that holds a slot
abbrev pub age_of : List (Option ℕ) → ℕ → Option ℕ
age_of ages slot = slice_index_or ages slot None

-- how many slots are held
abbrev pub how_many : List (Option ℕ) → ℕ
how_many [] = 0
how_many (None ∷ ages) = how_many ages
how_many (Some age ∷ ages) = how_many ages + 1

-- no age holds two slots
abbrev pub AreDistinct : List (Option ℕ) → Type 0
AreDistinct ages = (s t a : ℕ) → age_of ages s ≡ Some a → age_of ages t ≡ Some a → s ≡ t

-- the slot is held by this age, and each other slot that is held by a larger one
pub record IsLeast (ages : List (Option ℕ)) (slot age : ℕ) : Type 0 where
  pub holds : age_of ages slot ≡ Some age
  pub least : (s a : ℕ) → s ≢ slot → age_of ages s ≡ Some a → age < a
