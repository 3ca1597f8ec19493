-- What a link is made with.
use Rattle.std.specs.Prelude.{List, [], ◌++◌}
use Rattle.my_link.specs.declared.link.ReadItem.{ReadItem}
use Rattle.my_link.specs.declared.link.WriteItem.{WriteItem}

-- what is to be read, and what is to be done with writes
pub record LinkItems : Type 0 where
  pub reads : List ReadItem
  pub writes : List WriteItem

abbrev pub no_items : LinkItems
no_items = record { reads = []; writes = [] }

abbrev pub grown : LinkItems → LinkItems → LinkItems
grown a b = record { reads = a.reads ++ b.reads; writes = a.writes ++ b.writes }
