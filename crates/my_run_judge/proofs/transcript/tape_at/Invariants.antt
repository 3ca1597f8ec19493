use Rattle.std.proofs.Common.{◌≡◌, length}
use Rattle.my_run_judge.specs.Seen.{seen_at}
use Rattle.my_run_judge.proofs.transcript.tape_at.Given as goal

abbrev pub invariant-tapes : goal.invariant-tapes
invariant-tapes l = seen_at l.number l.left ≡ seen_at l.number l.fn.tapes

abbrev pub decreases-tapes : goal.decreases-tapes
decreases-tapes l = length l.left
