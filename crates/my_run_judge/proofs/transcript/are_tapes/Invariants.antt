use Rattle.std.proofs.Common.{length}
use Rattle.my_run_judge.proofs.Numbers.{NumberedSo}
use Rattle.my_run_judge.proofs.transcript.are_tapes.Given as goal

abbrev pub invariant-tapes : goal.invariant-tapes
invariant-tapes l = NumberedSo l.most l.fn.tapes l.first l.left

abbrev pub decreases-tapes : goal.decreases-tapes
decreases-tapes l = length l.left
