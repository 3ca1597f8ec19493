use Rattle.my_run.proofs.WrongRuns as law
use Rattle.my_run.proofs.wrong_runs.no_source_fault.Goals as goal

pub returns : goal.returns
returns c = law.no_source_fault
