use Rattle.my_run.proofs.WrongStops as law
use Rattle.my_run.proofs.wrong_runs.stopped_in_second.Goals as goal

pub returns : goal.returns
returns c = law.stopped_in_second
