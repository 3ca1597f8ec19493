-- A kept connection as contracts see it.
use Rattle.my_pool_store.specs.declared.shelf.Slot.{Slot}
use Rattle.my_pool_store.specs.Shelves.{Entry, entry}

abbrev pub entry_of : {C : Type 0} → Slot C → Entry C
entry_of s = entry s.number s.conn
