use Rattle.history_laws.proofs.Ordering as law
use Rattle.history_laws.proofs.each_is_orderly.Goals as goal

pub returns : goal.returns
returns c = law.each_is_orderly
