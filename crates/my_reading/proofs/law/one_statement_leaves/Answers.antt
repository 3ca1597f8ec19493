use Rattle.my_reading.proofs.Keeping as law
use Rattle.my_reading.proofs.law.one_statement_leaves.Goals as goal

pub returns : goal.returns
returns c = law.one_leaves
