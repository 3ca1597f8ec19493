use Rattle.my_run.proofs.WrongRuns as law
use Rattle.my_run.proofs.wrong_runs.no_still_moment.Goals as goal

pub returns : goal.returns
returns c = law.no_still_moment
