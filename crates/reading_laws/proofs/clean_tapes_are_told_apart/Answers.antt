use Rattle.reading_laws.proofs.Tapes.Clean as law
use Rattle.reading_laws.proofs.clean_tapes_are_told_apart.Goals as goal

pub returns-clause-clean : goal.returns-clause-clean
returns-clause-clean c = law.are_clean

pub returns-clause-unclean : goal.returns-clause-unclean
returns-clause-unclean c = law.are_unclean
