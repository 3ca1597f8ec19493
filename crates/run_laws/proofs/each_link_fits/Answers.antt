use Rattle.my_run.proofs.Runs.Fitting as law
use Rattle.run_laws.proofs.each_link_fits.Goals as goal

pub returns : goal.returns
returns c = law.links_fit
