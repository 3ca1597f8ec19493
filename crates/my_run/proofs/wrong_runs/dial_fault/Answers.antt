use Rattle.my_run.proofs.WrongRuns as law
use Rattle.my_run.proofs.wrong_runs.dial_fault.Goals as goal

pub returns : goal.returns
returns c = law.dial_fault
