-- What reads and writes of a link do to the items that it has left.
use Rattle.std.specs.Prelude.{ℕ, ◌≡◌, ◌-◌, ◌==◌, min, List, [], ◌∷◌, ◌++◌, Option, Some, None, if◌then◌else◌}
use Rattle.my_link.specs.declared.link.ReadItem.{ReadItem}
use Rattle.my_link.specs.declared.link.ReadItem.TheVariants as items
use Rattle.my_link.specs.declared.link.WriteItem.{WriteItem}
use Rattle.my_link.specs.declared.link.WriteItem.TheVariants as puts

-- how the items of a link change, where contracts see them
abbrev pub Told : {I : Type 0} → Option (List I) → Option (List I) → (List I → List I → Type 0) → Type 0
Told None new R = new ≡ None
Told (Some old) None R = ⊥
Told (Some old) (Some new) R = R old new

-- what is left of an item that was read in part
abbrev pub put_back : List ℕ → List ReadItem → List ReadItem
put_back [] more = more
put_back (b ∷ bytes) more = items.Bytes (b ∷ bytes) ∷ more

-- these bytes were read from the first item
pub record Gave (bytes : List ℕ) (old new : List ReadItem) : Type 0 where
  pub rest : List ℕ
  pub more : List ReadItem
  pub stood : old ≡ items.Bytes (bytes ++ rest) ∷ more
  pub stands : new ≡ put_back rest more

-- what is left after a read that isn't ready, where one may be: at a wait, at a turn that wasn't met, and at no item
abbrev pub after_hold : List ReadItem → Option (List ReadItem)
after_hold [] = Some []
after_hold (items.Bytes bytes ∷ more) = None
after_hold (items.Turn ∷ more) = Some (items.Turn ∷ more)
after_hold (items.Wait ∷ more) = Some more
after_hold (items.Fail ∷ more) = None
after_hold (items.End ∷ more) = None

-- what is left after a read that fails, where one may
abbrev pub after_fault : List ReadItem → Option (List ReadItem)
after_fault (items.Fail ∷ more) = Some more
after_fault is = None

-- what is left after a read that returns the end, where one may
abbrev pub after_end : List ReadItem → Option (List ReadItem)
after_end (items.End ∷ more) = Some (items.End ∷ more)
after_end is = None

-- a write that took a byte meets a turn that is first
abbrev pub after_write : List ReadItem → List ReadItem
after_write (items.Turn ∷ more) = more
after_write is = is

-- how many of `len` bytes a write takes, where it takes any
abbrev pub taken_of : ℕ → List WriteItem → Option ℕ
taken_of len [] = Some len
taken_of len (puts.Accept n ∷ more) = Some (min len n)
taken_of len (puts.Wait ∷ more) = None
taken_of len (puts.Fail ∷ more) = None

-- n bytes are still to be taken in one piece
abbrev pub accept_back : ℕ → List WriteItem → List WriteItem
accept_back n more = if n == 0 then more else puts.Accept n ∷ more

-- what is left after a write that took n bytes
abbrev pub after_taken : ℕ → List WriteItem → List WriteItem
after_taken n [] = []
after_taken n (puts.Accept k ∷ more) = accept_back (k - n) more
after_taken n (puts.Wait ∷ more) = puts.Wait ∷ more
after_taken n (puts.Fail ∷ more) = puts.Fail ∷ more

-- what is left after a write that isn't ready, where one may
abbrev pub after_write_hold : List WriteItem → Option (List WriteItem)
after_write_hold (puts.Wait ∷ more) = Some more
after_write_hold is = None

-- what is left after a write that fails, where one may
abbrev pub after_write_fault : List WriteItem → Option (List WriteItem)
after_write_fault (puts.Fail ∷ more) = Some more
after_write_fault is = None
