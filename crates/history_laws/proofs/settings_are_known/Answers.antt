use Rattle.history_laws.proofs.Gathering as law
use Rattle.history_laws.proofs.settings_are_known.Goals as goal

pub returns : goal.returns
returns c = law.each_is_settled
