use Rattle.run_laws.proofs.Planning.Keeping as law
use Rattle.run_laws.proofs.memory_tells.Goals as goal

pub returns : goal.returns
returns c = law.memory_tells
