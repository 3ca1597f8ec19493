use Rattle.reading_laws.proofs.Tapes.Wrong as law
use Rattle.reading_laws.proofs.wrong_tapes_are_refuted.Goals as goal

pub returns : goal.returns
returns c = law.are_wrong
