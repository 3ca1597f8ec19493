use Rattle.history_laws.proofs.Gathering as law
use Rattle.history_laws.proofs.each_tape_is_lawful.Goals as goal

pub returns : goal.returns
returns c = law.each_is_lawful
