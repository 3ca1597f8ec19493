use Rattle.std.proofs.Common.{◌≡◌}
use Rattle.my_pool_parts.specs.Connections.{is_idle, retire, latest_usable}
use Rattle.my_pool_parts.specs.Lists.{how_many}
use Rattle.my_pool_parts.proofs.connections.Connections.retire.Given as goal

abbrev pub invariant-loop-left : goal.invariant-loop-left
invariant-loop-left l = record {
  idle : l.left ≡ how_many is_idle l.self.list;
  retires : retire l.now l.self.list ≡ retire l.now l.fn.self.list;
  latest : latest_usable l.now l.self.list ≡ latest_usable l.now l.fn.self.list;
  next : l.self.next ≡ l.fn.self.next;
  coming : l.self.coming ≡ l.fn.self.coming;
  room : l.self.room ≡ l.fn.self.room;
}

abbrev pub decreases-loop-left : goal.decreases-loop-left
decreases-loop-left l = l.left
