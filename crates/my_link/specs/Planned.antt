-- The items of links that aren't dialed yet.
use Rattle.std.specs.Prelude.{ℕ, suc, ◌==◌, List, [], ◌∷◌, Bool, true, if◌then◌else◌}
use Rattle.std.specs.List.{list_all}
use Rattle.my_link.specs.declared.memory.planned.Addition.{Addition}
use Rattle.my_link.specs.declared.memory.planned.Addition.TheVariants.{Nothing, Reads, Write}
use Rattle.my_link.specs.Memory.{is_filled, is_open}
use Rattle.my_link.specs.Items.{LinkItems, no_items, grown}

abbrev pub added : Addition → LinkItems
added Nothing = no_items
added (Reads items) = record { reads = items.items; writes = [] }
added (Write item) = record { reads = []; writes = item ∷ [] }

abbrev pub is_lawful : Addition → Bool
is_lawful Nothing = true
is_lawful (Reads items) = list_all is_filled items.items
is_lawful (Write item) = is_open item

-- the items of the link of a number
pub record PlannedItems : Type 0 where
  pub number : ℕ
  pub items : LinkItems

-- with one addition more
abbrev pub with_more : PlannedItems → Addition → PlannedItems
with_more p addition = record { number = p.number; items = grown p.items (added addition) }

-- the items of link n
abbrev pub items_at : ℕ → List PlannedItems → LinkItems
items_at n [] = no_items
items_at n (p ∷ rest) = if p.number == n then p.items else items_at n rest

-- the place of its entry, or the end
abbrev pub place_at : ℕ → List PlannedItems → ℕ
place_at n [] = 0
place_at n (p ∷ rest) = if p.number == n then 0 else suc (place_at n rest)

-- the items of link n, with an addition more for the link of this number
abbrev pub items_with : ℕ → Addition → ℕ → List PlannedItems → LinkItems
items_with number addition n ps = grown (items_at n ps) (if number == n then added addition else no_items)
