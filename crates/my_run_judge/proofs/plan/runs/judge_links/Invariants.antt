use Rattle.std.proofs.Common.{length}
use Rattle.my_run_judge.proofs.Finding.{LinksSo}
use Rattle.my_run_judge.proofs.plan.runs.judge_links.Given as goal

abbrev pub invariant-tapes : goal.invariant-tapes
invariant-tapes l = LinksSo l.lines l.answers l.fn.tapes l.least l.left

abbrev pub decreases-tapes : goal.decreases-tapes
decreases-tapes l = length l.left
