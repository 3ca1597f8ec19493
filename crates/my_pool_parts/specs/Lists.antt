-- Lists in which one element, the first that passes a test, is looked for or changed.
use Rattle.std.specs.Prelude.{ℕ, ◌+◌, Bool, false, Option, Some, None, List, [], ◌∷◌, if◌then◌else◌}

-- the list with the first element that passes changed
abbrev pub change_first : {X : Type 0} → (X → Bool) → (X → X) → List X → List X
change_first test change [] = []
change_first test change (x ∷ xs) = if test x then change x ∷ xs else x ∷ change_first test change xs

-- whether something was found, and passes
abbrev pub found_is : {X : Type 0} → (X → Bool) → Option X → Bool
found_is test None = false
found_is test (Some x) = test x

-- how many pass
abbrev pub how_many : {X : Type 0} → (X → Bool) → List X → ℕ
how_many test [] = 0
how_many test (x ∷ xs) = (if test x then 1 else 0) + how_many test xs
