use Rattle.my_run.proofs.WrongRuns as law
use Rattle.my_run.proofs.wrong_runs.links_have_tapes.Goals as goal

pub returns : goal.returns
returns c = law.links_have_tapes
