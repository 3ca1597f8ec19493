use Rattle.std.proofs.Common.{length}
use Rattle.my_run_judge.proofs.Keeping.{AlikeSo}
use Rattle.my_run_judge.proofs.plan.left.alike.Given as goal

abbrev pub invariant-bytes : goal.invariant-bytes
invariant-bytes l = AlikeSo l.taken l.fn.bytes l.count l.left l.others

abbrev pub decreases-bytes : goal.decreases-bytes
decreases-bytes l = length l.left
