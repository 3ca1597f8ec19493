-- A tree of entries in a list, and its links to the slots.
use Rattle.std.specs.Prelude.{◌≡◌, ◌≢◌, ℕ, ◌+◌, ◌*◌, ◌<◌, ◌≤◌, Option, Some, List, slice_index_or, slice_index, length}
use Rattle.my_pool_parts.specs.declared.entry.Entry.{Entry}
use Rattle.my_pool_parts.specs.declared.tree.Tree.{Tree}
use Rattle.my_pool_parts.specs.Ages.{age_of, how_many, AreDistinct}

abbrev pub entry : ℕ → ℕ → Entry
entry slot age = record { slot = slot; age = age }

-- what is read where there is no entry
abbrev pub nobody : Entry
nobody = entry 0 0

-- the entry at an index, its slot and its age
abbrev pub entry_at : List Entry → ℕ → Entry
entry_at es i = slice_index_or es i nobody

abbrev pub slot_at : List Entry → ℕ → ℕ
slot_at es i = (entry_at es i).slot

abbrev pub age_at : List Entry → ℕ → ℕ
age_at es i = (entry_at es i).age

-- Each entry's slot is held by its age, and has the entry's index for its place. Each held slot has a place in
-- the tree, where its entry is. So there are as many entries as held slots.
pub record IsLinked (ages : List (Option ℕ)) (places : List ℕ) (entries : List Entry) : Type 0 where
  pub sizes : length places ≡ length ages
  pub held : (i : ℕ) → i < length entries → age_of ages (slot_at entries i) ≡ Some (age_at entries i)
  pub placed : (i : ℕ) → i < length entries → slice_index places (slot_at entries i) ≡ i
  pub within : (s a : ℕ) → age_of ages s ≡ Some a → slice_index places s < length entries
  pub found : (s a : ℕ) → age_of ages s ≡ Some a → slot_at entries (slice_index places s) ≡ s
  pub counted : length entries ≡ how_many ages

abbrev pub IsTree : Tree → Type 0
IsTree t = IsLinked t.ages.items t.places.items t.entries.items

-- two entries have changed their places
pub record IsSwapped (xs ys : List Entry) (i j : ℕ) : Type 0 where
  pub len : length ys ≡ length xs
  pub first : entry_at ys i ≡ entry_at xs j
  pub second : entry_at ys j ≡ entry_at xs i
  pub others : (k : ℕ) → k ≢ i → k ≢ j → entry_at ys k ≡ entry_at xs k

-- no entry is older than the one that it follows
abbrev pub IsOrdered : ℕ → (ℕ → ℕ) → Type 0
IsOrdered n age = (p c : ℕ) → 2 * p + 1 ≤ c → c ≤ 2 * p + 2 → c < n → age p ≤ age c

-- the same but at one index, where those after it are no older than the one before it
pub record IsOrderedBut (n : ℕ) (age : ℕ → ℕ) (i : ℕ) : Type 0 where
  pub others : (p c : ℕ) → 2 * p + 1 ≤ c → c ≤ 2 * p + 2 → c < n → p ≢ i → c ≢ i → age p ≤ age c
  pub over : (p c : ℕ) → 2 * p + 1 ≤ i → i ≤ 2 * p + 2 → 2 * i + 1 ≤ c → c ≤ 2 * i + 2 → c < n → age p ≤ age c

-- the entry at an index is no younger than those after it
abbrev pub IsAbove : ℕ → (ℕ → ℕ) → ℕ → Type 0
IsAbove n age i = (c : ℕ) → 2 * i + 1 ≤ c → c ≤ 2 * i + 2 → c < n → age i ≤ age c

-- the entry at an index is no older than the one before it
abbrev pub IsBelow : (ℕ → ℕ) → ℕ → Type 0
IsBelow age i = (p : ℕ) → 2 * p + 1 ≤ i → i ≤ 2 * p + 2 → age p ≤ age i

-- a tree that keeps to the order of the ages, of which no two are the same, with room for an entry of each slot
pub record IsHeap (t : Tree) : Type 0 where
  pub linked : IsTree t
  pub ordered : IsOrdered (length t.entries.items) (age_at t.entries.items)
  pub distinct : AreDistinct t.ages.items
  pub room : length t.ages.items ≤ t.entries.room
