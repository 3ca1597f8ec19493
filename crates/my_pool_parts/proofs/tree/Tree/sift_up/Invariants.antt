use Rattle.std.proofs.Common.{◌≡◌, ℕ, ◌+◌, ◌^◌, ◌<◌, ◌≤◌, length}
use Rattle.my_pool_parts.specs.Tree.{age_at, IsTree, IsOrderedBut, IsAbove}
use Rattle.my_pool_parts.proofs.tree.Tree.sift_up.Given as goal

abbrev pub invariant-loop-i : goal.invariant-loop-i
invariant-loop-i g l = record {
  linked : IsTree l.self;
  within : l.i < length l.self.entries.items;
  but : IsOrderedBut (length l.self.entries.items) (age_at l.self.entries.items) l.i;
  above : IsAbove (length l.self.entries.items) (age_at l.self.entries.items) l.i;
  ages : l.self.ages ≡ l.fn.self.ages;
  capacity : l.fn.self.entries.room ≤ l.self.entries.room;
  left : (e : ℕ) → l.fn.start + 1 < 2 ^ (e + 1) → (f : ℕ) × (l.i + 1 < 2 ^ (f + 1)) × (g.C.Ledger.noted l.steps + f ≤ g.C.Ledger.noted l.fn.steps + e);
}

abbrev pub decreases-loop-i : goal.decreases-loop-i
decreases-loop-i g l = l.i
