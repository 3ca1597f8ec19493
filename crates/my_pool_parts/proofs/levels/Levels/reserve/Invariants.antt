use Rattle.std.proofs.Common.{◌≡◌, ◌-◌, ◌*◌, ◌≤◌, max}
use Rattle.my_pool_parts.proofs.levels.Levels.reserve.Given as goal

abbrev pub invariant-loop-self : goal.invariant-loop-self
invariant-loop-self g l = record {
  items : l.self.items ≡ l.fn.self.items;
  grows : l.fn.self.room ≤ l.self.room;
  least : l.self.room ≤ max l.fn.self.room (2 * l.fn.room);
}

abbrev pub decreases-loop-self : goal.decreases-loop-self
decreases-loop-self g l = l.room - l.self.room
