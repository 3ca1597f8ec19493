use Rattle.reading_laws.proofs.Tapes.Right as law
use Rattle.reading_laws.proofs.right_tapes_are_accepted.Goals as goal

pub returns : goal.returns
returns c = law.are_right
