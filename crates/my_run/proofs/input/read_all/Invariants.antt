use Rattle.std.proofs.Common.{◌≡◌, ◌-◌, vec_len}
use Rattle.my_frame.specs.Outside.{Leaves}
use Rattle.my_run.proofs.input.read_all.Given as goal

abbrev pub decreases-more : goal.decreases-more
decreases-more g l = 67108865 - vec_len l.bytes

abbrev pub invariant-more : goal.invariant-more
invariant-more g l = record {
  came : Leaves (g.S.Source.seen l.fn.src).left l.bytes.items (g.S.Source.seen l.src).left;
  faults : (g.S.Source.seen l.src).faults ≡ (g.S.Source.seen l.fn.src).faults;
  ends : (g.S.Source.seen l.src).ends ≡ (g.S.Source.seen l.fn.src).ends;
}
