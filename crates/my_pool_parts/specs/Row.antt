-- A list in levels, each with twice the room of the one before it, and a queue in parts, of which the last one takes what comes.
use Rattle.std.specs.Prelude.{◌≡◌, ℕ, zero, suc, Bool, false, ◌==◌, ◌-◌, ◌*◌, ◌≤◌, ◌^◌, min, max, nat_le, if◌then◌else◌, List, [], ◌∷◌, length, Vec, vec_capacity}
use Rattle.std.specs.List.{flat_map, list_any}

-- what is seen: the elements, and for how many there is room
pub record Row (X : Type 0) : Type 0 where
  pub items : List X
  pub room : ℕ

abbrev pub row : {X : Type 0} → List X → ℕ → Row X
row items room = record { items = items; room = room }

-- the elements of all levels
abbrev pub joined : {X Z : Type 0} → List (Vec X Z) → List X
joined levels = flat_map (λ level. level.items) levels

-- `n` elements fill levels of which the first has room for `size`: each is full where there are that many, and where
-- fewer are left it has these
abbrev pub IsFilled : {X Z : Type 0} → ℕ → ℕ → List (Vec X Z) → Type 0
IsFilled size n [] = n ≡ 0
IsFilled size n (level ∷ levels) =
    (length level.items ≡ min n size) × ((size ≤ vec_capacity level) × IsFilled (2 * size) (n - size) levels)

-- the room of so many levels
abbrev pub room_of : ℕ → ℕ
room_of count = 2 ^ count - 1

-- the elements of all parts, each of which has a list
abbrev pub strung : {P X : Type 0} → (P → List X) → List P → List X
strung items parts = flat_map items parts

-- the room of the last part
abbrev pub last_room : {P : Type 0} → (P → ℕ) → List P → ℕ
last_room room [] = 0
last_room room (part ∷ []) = room part
last_room room (part ∷ next ∷ parts) = last_room room (next ∷ parts)

-- whether a number stands in the part of an index
abbrev pub stands_in : {P : Type 0} → (P → List ℕ) → ℕ → List P → ℕ → Bool
stands_in items number [] k = false
stands_in items number (part ∷ parts) zero = list_any (λ m. m == number) (items part)
stands_in items number (part ∷ parts) (suc k) = stands_in items number parts k

-- the room for so many: where it is more than before, at least twice of that
abbrev pub more_room : ℕ → ℕ → ℕ
more_room before room = if nat_le room before then before else max room (2 * before)
