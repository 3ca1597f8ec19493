-- The least number at a kind of place, as it is looked for.
use Rattle.std.specs.Prelude.{ℕ, Option, Some, None, List, [], ◌∷◌, nat_le, ◌&&◌, min, if◌then◌else◌}
use Rattle.my_pool_parts.specs.declared.connection.Connection.{Connection}
use Rattle.my_pool_parts.specs.declared.connection.PlaceKind.{PlaceKind}
use Rattle.my_pool_parts.specs.Connections.{is_kind}

-- the lesser of two numbers, of which one may be missing
abbrev pub lesser : Option ℕ → ℕ → ℕ
lesser None n = n
lesser (Some m) n = min m n

-- the least number of those that aren't below one and are at a kind of place, and of one that was found before
abbrev pub least_at : PlaceKind → ℕ → Option ℕ → List Connection → Option ℕ
least_at kind from found [] = found
least_at kind from found (c ∷ cs) =
    least_at kind from (if nat_le from c.number && is_kind kind c.place then Some (lesser found c.number) else found) cs
