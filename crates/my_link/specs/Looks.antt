-- What clauses see of a link.
use Rattle.std.specs.Prelude.{ℕ, List, Option}
use Rattle.my_link.specs.declared.link.ReadItem.{ReadItem}
use Rattle.my_link.specs.declared.link.WriteItem.{WriteItem}
use Rattle.my_link.specs.Outside.{Counts}

-- the items that are left for reads and for writes and the bytes that it was sent, where the link tells them, and its counts
pub record Looks : Type 0 where
  pub items : Option (List ReadItem)
  pub writes : Option (List WriteItem)
  pub got : Option (List ℕ)
  pub counts : Counts
