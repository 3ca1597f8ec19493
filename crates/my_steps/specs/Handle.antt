-- What the steps so far made of a connection's number.
use Rattle.std.specs.Prelude.{ℕ, zero, suc, List, [], ◌∷◌, Option, Bool}
use Rattle.my_client.specs.Kept.{Kept}
use Rattle.my_link.specs.Looks.{Looks}
use Rattle.my_link.specs.declared.dialer.DialItem.{DialItem}

-- No connection, or one whose dial failed; one whose dial wasn't ready, with the items that are left for its dials, where they are
-- told; and one that has a link: whether steps may still name it, what it kept, and what its link shows, so what is left of its
-- plan.
pub data Handle : Type 0 where
  Absent : Handle
  Dialing : (left : Option (List DialItem)) → Handle
  Joined : (there : Bool) (kept : Kept) (link : Looks) → Handle

abbrev pub at_number : List Handle → ℕ → Handle
at_number [] n = Absent
at_number (h ∷ hs) zero = h
at_number (h ∷ hs) (suc n) = at_number hs n

abbrev pub put_at : ℕ → Handle → List Handle → List Handle
put_at n new [] = []
put_at zero new (h ∷ hs) = new ∷ hs
put_at (suc n) new (h ∷ hs) = h ∷ put_at n new hs
