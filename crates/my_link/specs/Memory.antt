-- What a link in memory has left.
use Rattle.std.specs.Prelude.{ℕ, ◌≡◌, ◌<◌, ◌≤◌, ◌==◌, ◌&&◌, nat_lt, Bool, true, List, [], ◌∷◌, length, take, drop, Some}
use Rattle.std.specs.List.{list_all}
use Rattle.my_link.specs.declared.link.WriteItem.{WriteItem}
use Rattle.my_link.specs.declared.link.WriteItem.TheVariants as puts
use Rattle.my_link.specs.declared.memory.writes.Room.{Room}
use Rattle.my_link.specs.declared.memory.writes.Room.TheVariants as rooms
use Rattle.my_link.specs.Link.{taken_of, after_write_hold, after_write_fault}
use Rattle.my_link.specs.declared.link.ReadItem.{ReadItem}
use Rattle.my_link.specs.declared.link.ReadItem.TheVariants.{Bytes, Turn, Wait, Fail, End}

-- the items, of whose first `from` bytes were read
abbrev pub left_items : ℕ → List ReadItem → List ReadItem
left_items from [] = []
left_items from (Bytes bytes ∷ more) = Bytes (drop from bytes) ∷ more
left_items from (Turn ∷ more) = Turn ∷ more
left_items from (Wait ∷ more) = Wait ∷ more
left_items from (Fail ∷ more) = Fail ∷ more
left_items from (End ∷ more) = End ∷ more

-- bytes that can be read are at least one
abbrev pub is_filled : ReadItem → Bool
is_filled (Bytes bytes) = nat_lt 0 (length bytes)
is_filled Turn = true
is_filled Wait = true
is_filled Fail = true
is_filled End = true

-- the first item was read in part, and not whole
abbrev pub is_sound : ℕ → List ReadItem → Bool
is_sound from [] = from == 0
is_sound from (Bytes bytes ∷ more) = nat_lt from (length bytes) && list_all is_filled more
is_sound from (Turn ∷ more) = (from == 0) && list_all is_filled more
is_sound from (Wait ∷ more) = (from == 0) && list_all is_filled more
is_sound from (Fail ∷ more) = (from == 0) && list_all is_filled more
is_sound from (End ∷ more) = (from == 0) && list_all is_filled more

-- as many bytes as fit are at the front of the buffer
pub record CopiesFront (buf bytes : List ℕ) (n : ℕ) : Type 0 where
  pub some : 0 < n
  pub fits : n ≤ length buf
  pub there : n ≤ length bytes
  pub copied : take n buf ≡ take n bytes

-- bytes that are to be taken are at least one
abbrev pub is_open : WriteItem → Bool
is_open (puts.Accept n) = nat_lt 0 n
is_open puts.Wait = true
is_open puts.Fail = true

-- what a write of `len` bytes does, by the items for writes
abbrev pub RoomIs : List WriteItem → ℕ → Room → Type 0
RoomIs ws len (rooms.Take n) = (0 < n) × (n ≤ len) × (taken_of len ws ≡ Some n)
RoomIs ws len rooms.Hold = after_write_hold ws ≡ Some (drop 1 ws)
RoomIs ws len rooms.Fail = after_write_fault ws ≡ Some (drop 1 ws)
