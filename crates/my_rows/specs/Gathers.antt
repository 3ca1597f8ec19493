-- What is gathered of the rows of a set.
use Rattle.std.specs.Prelude.{◌≡◌, ◌++◌, List, [], ◌∷◌}
use Rattle.std.specs.declared.result.Result.{Result}
use Rattle.std.specs.declared.result.Result.TheVariants.{Ok, Err}
use Rattle.my_link.specs.Looks.{Looks}
use Rattle.my_value.specs.RowParts.{RowParts}
use Rattle.my_conn.specs.Conn.{ConnSeen}
use Rattle.my_rows.specs.Reads.{ReadsRows, ReadsEnd, ReadFails}
use Rattle.my_rows.specs.declared.error.QueryError.{QueryError}
use Rattle.my_rows.specs.declared.gather.Collected.{Collected}
use Rattle.my_rows.specs.declared.gather.Folded.{Folded}
use Rattle.my_rows.specs.declared.gather.Mapped.{Mapped}

-- From this start the rows, the newest first, lead to that end: each became an item, which was taken in.
abbrev pub Gathered : {T G : Type 0} → (RowParts → T → Type 0) → (G → T → G → Type 0) → G → List RowParts → G → Type 0
Gathered becomes takes start [] end = end ≡ start
Gathered {T} {G} becomes takes start (r ∷ rs) end = (so_far : G) × (item : T) × Gathered becomes takes start rs so_far
    × becomes r item × takes so_far item end

-- The function was called with the value so far and an item, and returned the next value.
abbrev pub Folds : {U T F : Type 0} → (F → U → T → U → F → Type 0) → Folded U F → T → Folded U F → Type 0
Folds step old item new = step old.f old.value item new.value new.f

-- The function was called with an item, and what it returned is the last of the list.
abbrev pub Maps : {U T F : Type 0} → (F → T → U → F → Type 0) → Mapped U F → T → Mapped U F → Type 0
Maps {U} step old item new = (made : U) × step old.f item made new.f × (new.items.items ≡ old.items.items ++ made ∷ [])

-- The item is the last of the list.
abbrev pub Collects : {T : Type 0} → Collected T → T → Collected T → Type 0
Collects old item new = new.items.items ≡ old.items.items ++ item ∷ []

-- Rows were read and gathered up to the end of the set, or up to a read that gave no value.
abbrev pub SetIs : {L T G : Type 0} → (L → Looks) → (RowParts → Type 0) → (RowParts → T → Type 0) → (G → T → G → Type 0) → G
    → ConnSeen L → ConnSeen L → Result G QueryError → Type 0
SetIs {L} look converts becomes takes start old new (Ok end) = (rows : List RowParts) × (mid : ConnSeen L)
    × ReadsRows look old rows mid × Gathered becomes takes start rows end × ReadsEnd look mid new
SetIs {L} {T} {G} look converts becomes takes start old new (Err error) = (rows : List RowParts) × (mid : ConnSeen L) × (so_far : G)
    × ReadsRows look old rows mid × Gathered becomes takes start rows so_far × ReadFails look converts mid new error
