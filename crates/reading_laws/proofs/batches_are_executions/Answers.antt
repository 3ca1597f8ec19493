use Rattle.reading_laws.proofs.Batching as law
use Rattle.reading_laws.proofs.batches_are_executions.Goals as goal

pub returns : goal.returns
returns c = law.batches_are_executions
