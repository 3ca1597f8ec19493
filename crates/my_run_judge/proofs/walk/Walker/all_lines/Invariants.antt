use Rattle.std.proofs.Common.{length}
use Rattle.my_run_judge.specs.Seen.{seen}
use Rattle.my_run_judge.proofs.Whole.{Judged}
use Rattle.my_run_judge.proofs.walk.Walker.all_lines.Given as goal

abbrev pub invariant-lines : goal.invariant-lines
invariant-lines l = Judged l.login l.number (seen l.tape) l.steps l.answers l.index l.made l.self l.left l.others

abbrev pub decreases-lines : goal.decreases-lines
decreases-lines l = length l.left
