use Rattle.std.proofs.Common.{◌≡◌, ◌≤◌, ◌-◌, take, length}
use Rattle.my_frame.specs.Outside.{Comes}
use Rattle.my_run.proofs.output.write_all.Given as goal

abbrev pub decreases-rest : goal.decreases-rest
decreases-rest g l = length l.bytes - l.from

abbrev pub invariant-rest : goal.invariant-rest
invariant-rest g l = record {
  within : l.from ≤ length l.bytes;
  so_far : Comes (g.W.Sink.seen l.fn.out).took (take l.from l.bytes) (g.W.Sink.seen l.out).took;
  faults : (g.W.Sink.seen l.out).faults ≡ (g.W.Sink.seen l.fn.out).faults;
}
