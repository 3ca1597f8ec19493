use Rattle.std.proofs.Common.{◌≡◌, ℕ, ◌+◌, ◌-◌, ◌*◌, ◌^◌, ◌<◌, ◌≤◌, length}
use Rattle.my_pool_parts.specs.Tree.{age_at, IsTree, IsOrderedBut, IsBelow}
use Rattle.my_pool_parts.proofs.tree.Tree.sift_down.Given as goal

abbrev pub invariant-loop-i : goal.invariant-loop-i
invariant-loop-i g l = record {
  linked : IsTree l.self;
  len : length l.self.entries.items ≡ length l.fn.self.entries.items;
  within : l.i < length l.self.entries.items;
  but : IsOrderedBut (length l.self.entries.items) (age_at l.self.entries.items) l.i;
  below : IsBelow (age_at l.self.entries.items) l.i;
  ages : l.self.ages ≡ l.fn.self.ages;
  capacity : l.fn.self.entries.room ≤ l.self.entries.room;
  left : (d : ℕ) → length l.fn.self.entries.items < 2 ^ d → (f : ℕ) × (length l.fn.self.entries.items < (l.i + 1) * 2 ^ f) × (g.C.Ledger.noted l.steps + 2 * f ≤ g.C.Ledger.noted l.fn.steps + 2 * d);
}

abbrev pub decreases-loop-i : goal.decreases-loop-i
decreases-loop-i g l = length l.self.entries.items - l.i
