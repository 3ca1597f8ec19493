use Rattle.my_machine.proofs.Running.{Led, work}
use Rattle.my_machine.proofs.progress.Progress.run.Given as goal

abbrev pub invariant-steps : goal.invariant-steps
invariant-steps l = Led l.login l.call l.fn.self l.fn.stand l.self l.stand

abbrev pub decreases-steps : goal.decreases-steps
decreases-steps l = work l.login l.call l.self l.stand
