use Rattle.std.proofs.Common.{length}
use Rattle.my_run_judge.specs.Seen.{seen}
use Rattle.my_run_judge.proofs.EachPoll.{PollsSo}
use Rattle.my_run_judge.proofs.walk.Walker.polls.Given as goal

abbrev pub invariant-polls : goal.invariant-polls
invariant-polls l = PollsSo l.login l.number (seen l.tape) l.outcome l.first l.fn.self l.uses l.self l.left

abbrev pub decreases-polls : goal.decreases-polls
decreases-polls l = length l.left
