-- The items for the dials of a world in memory, in one list for all numbers.
use Rattle.std.specs.Prelude.{ℕ, ◌≡◌, suc, ◌==◌, List, [], ◌∷◌, Option, Some, None, if◌then◌else◌}
use Rattle.my_link.specs.declared.dialer.DialItem.{DialItem}
use Rattle.my_link.specs.declared.mem_world.dials.PlannedDial.{PlannedDial}

-- the items of link n
abbrev pub dials_at : ℕ → List PlannedDial → List DialItem
dials_at n [] = []
dials_at n (d ∷ ds) = if d.number == n then d.item ∷ dials_at n ds else dials_at n ds

-- the place of the first one, or the end
abbrev pub dial_place : ℕ → List PlannedDial → ℕ
dial_place n [] = 0
dial_place n (d ∷ ds) = if d.number == n then 0 else suc (dial_place n ds)

-- the first item was taken out, or none was there
abbrev pub TakesDial : List DialItem → List DialItem → Option DialItem → Type 0
TakesDial old new None = (old ≡ []) × (new ≡ old)
TakesDial old new (Some item) = old ≡ item ∷ new
