use Rattle.my_run.proofs.WrongRuns as law
use Rattle.my_run.proofs.wrong_runs.no_steps_unread.Goals as goal

pub returns : goal.returns
returns c = law.no_steps_unread
