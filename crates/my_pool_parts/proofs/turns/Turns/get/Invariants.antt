use Rattle.std.proofs.Common.{◌≡◌, drop, deque_items}
use Rattle.std.specs.Prelude.{slice_get}
use Rattle.my_pool_parts.specs.Row.{strung}
use Rattle.my_pool_parts.proofs.turns.Turns.get.Given as goal

-- what is looked for stands in the parts that are left
abbrev pub invariant-loop-part : goal.invariant-loop-part
invariant-loop-part l = slice_get (strung deque_items (drop l.part-index l.part-items)) l.left ≡ slice_get l.fn.self.items l.fn.index
