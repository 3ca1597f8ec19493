use Rattle.std.proofs.Common.{length}
use Rattle.my_run_judge.proofs.Keeping.{KeptSo}
use Rattle.my_run_judge.proofs.plan.left.Left.meets.Given as goal

abbrev pub invariant-uses : goal.invariant-uses
invariant-uses l = KeptSo l.number l.fn.self l.fn.uses l.self l.left

abbrev pub decreases-uses : goal.decreases-uses
decreases-uses l = length l.left
