use Rattle.my_run.proofs.WrongStops as law
use Rattle.my_run.proofs.wrong_runs.sent_at_stop.Goals as goal

pub returns : goal.returns
returns c = law.sent_at_stop
