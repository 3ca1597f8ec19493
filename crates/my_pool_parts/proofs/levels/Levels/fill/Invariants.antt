use Rattle.std.proofs.Common.{◌≡◌, ◌-◌, ◌++◌, length, replicate}
use Rattle.my_pool_parts.proofs.levels.Levels.fill.Given as goal

-- what is missing makes the list that is wanted
abbrev pub invariant-loop-value : goal.invariant-loop-value
invariant-loop-value g l = record {
  items : l.self.items ++ replicate (l.len - length l.self.items) l.value ≡ l.fn.self.items ++ replicate (l.fn.len - length l.fn.self.items) l.fn.value;
  room : l.self.room ≡ l.fn.self.room;
}

abbrev pub decreases-loop-value : goal.decreases-loop-value
decreases-loop-value g l = l.len - length l.self.items
