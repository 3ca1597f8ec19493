use Rattle.std.proofs.Common.{length}
use Rattle.my_run_judge.proofs.Dialing.{DialsSo}
use Rattle.my_run_judge.proofs.plan.dials.judge_dials.Given as goal

abbrev pub invariant-lines : goal.invariant-lines
invariant-lines l = DialsSo l.number l.items l.steps l.answers l.index l.spot l.coming l.left l.others

abbrev pub decreases-lines : goal.decreases-lines
decreases-lines l = length l.left
