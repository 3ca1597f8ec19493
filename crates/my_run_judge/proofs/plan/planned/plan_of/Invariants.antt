use Rattle.std.proofs.Common.{length}
use Rattle.my_run_judge.proofs.Planning.{PlannedSo}
use Rattle.my_run_judge.proofs.plan.planned.plan_of.Given as goal

abbrev pub invariant-lines : goal.invariant-lines
invariant-lines l = PlannedSo l.number l.fn.lines l.plan l.left

abbrev pub decreases-lines : goal.decreases-lines
decreases-lines l = length l.left
