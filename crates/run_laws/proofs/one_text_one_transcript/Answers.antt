use Rattle.run_laws.proofs.Writing.Texts as law
use Rattle.run_laws.proofs.one_text_one_transcript.Goals as goal

pub returns : goal.returns
returns c = law.one_text_one_transcript
