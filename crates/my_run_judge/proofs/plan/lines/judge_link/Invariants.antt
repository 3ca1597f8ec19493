use Rattle.std.proofs.Common.{length}
use Rattle.my_run_judge.proofs.Following.{LinkSo}
use Rattle.my_run_judge.proofs.plan.lines.judge_link.Given as goal

abbrev pub invariant-answers : goal.invariant-answers
invariant-answers l = LinkSo l.number l.fn.first l.answers l.index l.now l.left

abbrev pub decreases-answers : goal.decreases-answers
decreases-answers l = length l.left
