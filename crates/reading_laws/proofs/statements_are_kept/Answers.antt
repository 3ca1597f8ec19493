use Rattle.reading_laws.proofs.Ending.{open_are_kept}
use Rattle.reading_laws.proofs.Running as law
use Rattle.reading_laws.proofs.statements_are_kept.Goals as goal

pub returns-clause-returned : goal.returns-clause-returned
returns-clause-returned c = law.statements_are_kept

pub returns-clause-settled : goal.returns-clause-settled
returns-clause-settled c = law.settled_are_kept

pub returns-clause-while_open : goal.returns-clause-while_open
returns-clause-while_open c = open_are_kept
