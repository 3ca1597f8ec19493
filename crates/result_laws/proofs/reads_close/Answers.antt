use Rattle.result_laws.proofs.ClosingReads as law
use Rattle.result_laws.proofs.reads_close.Goals as goal

pub returns-clause-item : goal.returns-clause-item
returns-clause-item g c = law.item_closes _ _ _

pub returns-clause-set : goal.returns-clause-set
returns-clause-set g c = law.set_closes _ _ _ _
