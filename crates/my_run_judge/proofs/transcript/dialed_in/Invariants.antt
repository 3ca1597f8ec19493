use Rattle.std.proofs.Common.{length}
use Rattle.my_run_judge.proofs.Numbers.{DialedSo}
use Rattle.my_run_judge.proofs.transcript.dialed_in.Given as goal

abbrev pub invariant-steps : goal.invariant-steps
invariant-steps l = DialedSo l.fn.steps l.dialed l.left

abbrev pub decreases-steps : goal.decreases-steps
decreases-steps l = length l.left
