use Rattle.run_laws.proofs.Judging.Accepted as law
use Rattle.run_laws.proofs.each_run_is_right.Goals as goal

pub returns : goal.returns
returns c = law.each_run_is_right
