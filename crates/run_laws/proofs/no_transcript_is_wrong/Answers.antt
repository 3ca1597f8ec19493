use Rattle.run_laws.proofs.Refuting.Wrong as law
use Rattle.run_laws.proofs.no_transcript_is_wrong.Goals as goal

pub returns : goal.returns
returns c = law.are_wrong
