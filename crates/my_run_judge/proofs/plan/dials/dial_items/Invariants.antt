use Rattle.std.proofs.Common.{length}
use Rattle.my_run_judge.proofs.Dialing.{ItemsSo}
use Rattle.my_run_judge.proofs.plan.dials.dial_items.Given as goal

abbrev pub invariant-lines : goal.invariant-lines
invariant-lines l = ItemsSo l.number l.fn.lines l.items.items l.left

abbrev pub decreases-lines : goal.decreases-lines
decreases-lines l = length l.left
