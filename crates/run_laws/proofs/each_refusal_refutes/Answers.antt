use Rattle.run_laws.proofs.Judging.Accepted as law
use Rattle.run_laws.proofs.each_refusal_refutes.Goals as goal

pub returns : goal.returns
returns c = law.each_refusal_refutes
