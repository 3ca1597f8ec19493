-- What clauses see of a link in memory.
use Rattle.std.specs.Prelude.{ℕ, ◌≡◌, List, ◌++◌, length, drop, Some}
use Rattle.my_link.specs.declared.memory.MemLink.{MemLink}
use Rattle.my_link.specs.declared.link.ReadItem.{ReadItem}
use Rattle.my_link.specs.declared.link.WriteItem.{WriteItem}
use Rattle.my_link.specs.declared.link.WriteStep.{WriteStep}
use Rattle.my_link.specs.declared.link.WriteStep.TheVariants as writes
use Rattle.my_link.specs.Link.{after_write, after_taken}
use Rattle.my_link.specs.Memory.{left_items}
use Rattle.my_link.specs.Looks.{Looks}
use Rattle.my_link.specs.Outside.{Counts}

-- the items that it has left
abbrev pub unread : MemLink → List ReadItem
unread m = left_items m.from (drop m.place m.items.items)

-- the items for writes that it has left
abbrev pub unwritten : MemLink → List WriteItem
unwritten m = m.writes

-- how often it failed, held, ended and was found dead
abbrev pub counted : MemLink → Counts
counted m = record { faults = m.faults; holds = m.holds; ends = m.ends; deaths = m.deaths }

-- the bytes that it was sent
abbrev pub sent_to : MemLink → List ℕ
sent_to m = m.got.items

-- it tells all of this
abbrev pub looks_of : MemLink → Looks
looks_of m = record { items = Some (unread m); writes = Some (unwritten m); got = Some (sent_to m); counts = counted m }

-- these bytes were kept
pub record HasKept (m k : MemLink) (bytes : List ℕ) (n : ℕ) : Type 0 where
  pub count : n ≡ length bytes
  pub items : unread k ≡ after_write (unread m)
  pub writes : unwritten k ≡ after_taken n (unwritten m)
  pub got : sent_to k ≡ sent_to m ++ bytes
  pub counts : counted k ≡ counted m

-- all these bytes are kept, or out of memory nothing is done
abbrev pub Keeps : MemLink → MemLink → List ℕ → WriteStep → Type 0
Keeps m k bytes (writes.Took n) = HasKept m k bytes n
Keeps m k bytes writes.NotYet = ⊥
Keeps m k bytes writes.Failed = ⊥
Keeps m k bytes writes.NoMemory =
    (unread k ≡ unread m) × (unwritten k ≡ unwritten m) × (sent_to k ≡ sent_to m) × (counted k ≡ counted m)
