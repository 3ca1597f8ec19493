use Rattle.std.proofs.Common.{◌≡◌, ◌-◌, ◌^◌, length}
use Rattle.my_steps.specs.Gathering.{EachSoFar}
use Rattle.my_steps.proofs.gather.gather_rows.Given as goal

abbrev pub invariant-rows : goal.invariant-rows
invariant-rows g l = record {
  pending : l.conn.pending ≡ l.pending;
  so : EachSoFar g.L.Link.looks l.fn.number l.fn.first l.fn.conn l.fn.rows.items l.pending l.conn l.rows.items l.uses.items;
}

abbrev pub decreases-rows : goal.decreases-rows
decreases-rows g l = 2 ^ 64 - length l.uses.items
