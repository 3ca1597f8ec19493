use Rattle.std.proofs.Common.{◌≡◌, ◌+◌, ◌≤◌}
use Rattle.my_pool_parts.specs.Connections.{is_idle}
use Rattle.my_pool_parts.specs.Lists.{how_many}
use Rattle.my_pool_parts.proofs.Turning.{IsSwept}
use Rattle.my_pool_parts.proofs.connections.Connections.sweep.Given as goal

abbrev pub invariant-turns : goal.invariant-turns
invariant-turns l = record {
  so_far : IsSwept l.fn.self.list l.self.list l.now l.inactive l.many l.index l.moved;
  turns : l.index + l.moved ≡ l.counter;
  within : l.counter ≤ l.end;
  idle : how_many is_idle l.self.list + l.moved ≡ l.end;
  next : l.self.next ≡ l.fn.self.next;
  coming : l.self.coming ≡ l.fn.self.coming;
  room : l.self.room ≡ l.fn.self.room;
}
