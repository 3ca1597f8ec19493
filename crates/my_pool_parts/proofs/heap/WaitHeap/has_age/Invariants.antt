use Rattle.std.proofs.Common.{◌≡◌, ℕ, ◌<◌, Some}
use Rattle.my_pool_parts.specs.Ages.{age_of}
use Rattle.my_pool_parts.proofs.heap.WaitHeap.has_age.Given as goal

abbrev pub invariant-loop-slot : goal.invariant-loop-slot
invariant-loop-slot l = (k : ℕ) → k < l.slot → age_of l.self k ≡ Some l.age → ⊥
