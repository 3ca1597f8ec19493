use Rattle.run_laws.proofs.Planning.Keeping as law
use Rattle.run_laws.proofs.each_planned_refusal_refutes.Goals as goal

pub returns : goal.returns
returns c = law.each_refusal_refutes
