-- Places as nodes of a map by number, joined in the order in which they were put.
use Rattle.std.specs.Prelude.{◌≡◌, ℕ, ◌≤◌, Bool, false, Option, Some, None, List, [], ◌∷◌, length, nat_eq, option_map, if◌then◌else◌}
use Rattle.std.specs.Option.{option_map_or}
use Rattle.std.specs.Ordering.{nat_cmp}
use Rattle.std.specs.Map.{lookup}
use Rattle.std.specs.BTreeMap.{is_at}
use Rattle.my_pool_parts.specs.declared.connection.Place.{Place}
use Rattle.my_pool_parts.specs.declared.node.Node.{Node}
use Rattle.my_pool_parts.specs.Arrived.{IsApart}

abbrev pub node : Option Place → Option ℕ → Option ℕ → Node
node place older newer = record { place = place; older = older; newer = newer }

abbrev pub with_older : Option ℕ → Node → Node
with_older older d = node d.place older d.newer

abbrev pub with_newer : Option ℕ → Node → Node
with_newer newer d = node d.place d.older newer

-- whether it is this number
abbrev pub is_number : Option ℕ → ℕ → Bool
is_number None n = false
is_number (Some m) n = nat_eq n m

-- what a number n has, where the node of another number, which may be missing, is changed
abbrev pub changed_at : Option ℕ → (Node → Node) → ℕ → Option Node → Option Node
changed_at number change n d = if is_number number n then option_map change d else d

-- the same, where the neighbours of a node become each other's
abbrev pub unlinked : Node → ℕ → Option Node → Option Node
unlinked old n d =
    changed_at old.older (with_newer old.newer) n (changed_at old.newer (with_older old.older) n d)

-- the newest number, without a node
abbrev pub newest_without : Option ℕ → Node → Option ℕ
newest_without newest old = option_map_or (λ _. newest) old.newer old.older

-- the first number
abbrev pub first : List (ℕ × Option Place) → Option ℕ
first [] = None
first (e ∷ es) = Some e.0

-- the node of a number, where `newer` stands before the list
abbrev pub node_of : Option ℕ → List (ℕ × Option Place) → ℕ → Option Node
node_of newer [] n = None
node_of newer (e ∷ es) n = if nat_eq n e.0 then Some (node e.1 (first es) newer) else node_of (Some e.0) es n

-- what a map has at a number
abbrev pub node_at : List (ℕ × Node) → ℕ → Option Node
node_at m n = lookup (is_at (nat_cmp n)) m

-- from a number on, always to the older neighbour, in at most as many steps as the first list is long
abbrev pub walk : List (ℕ × Node) → List (ℕ × Node) → Option ℕ → List (ℕ × Option Place)
walk [] m number = []
walk (x ∷ xs) m None = []
walk (x ∷ xs) m (Some n) = option_map_or (λ d. (n, d.place) ∷ walk xs m d.older) (node_at m n) []

-- the places of a map, from a number on
abbrev pub in_order : List (ℕ × Node) → Option ℕ → List (ℕ × Option Place)
in_order m newest = walk m m newest

-- a map has a node for each place of a list, and no other, with the neighbours that it has there
pub record IsLinked (m : List (ℕ × Node)) (newest : Option ℕ) (es : List (ℕ × Option Place)) : Type 0 where
  pub apart : IsApart es
  pub newest_is : newest ≡ first es
  pub nodes : (n : ℕ) → node_at m n ≡ node_of None es n
  pub fits : length es ≤ length m
