use Rattle.std.proofs.Common.{◌≡◌, ◌*◌, ◌≤◌, is_some}
use Rattle.my_frame.specs.declared.limits.TheConstants.{MOST_TAKEN}
use Rattle.my_client.proofs.Points.{SoFar}
use Rattle.my_client.proofs.making.make.Given as goal

abbrev pub invariant-calls : goal.invariant-calls
invariant-calls g l = record {
  so : SoFar (g.A.AfterConnect.texts l.fn.aid) l.fn.now l.fn.first (g.L.Link.looks l.fn.link) l.fn.session l.fn.tape l.at l.next (g.L.Link.looks l.link) l.session l.tape l.taken;
  keeps : is_some l.tape ≡ is_some l.fn.tape;
  same : g.A.AfterConnect.texts l.aid ≡ g.A.AfterConnect.texts l.fn.aid;
  room : l.taken ≤ l.n * MOST_TAKEN;
}
