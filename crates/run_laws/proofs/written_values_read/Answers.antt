use Rattle.run_laws.proofs.Writing.Written as law
use Rattle.run_laws.proofs.written_values_read.Goals as goal

pub returns : goal.returns
returns c = law.reads_as_itself
