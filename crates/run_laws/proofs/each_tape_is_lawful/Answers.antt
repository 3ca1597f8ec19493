use Rattle.run_laws.proofs.Tapes as law
use Rattle.run_laws.proofs.each_tape_is_lawful.Goals as goal

pub returns : goal.returns
returns c = law.each_tape_is_lawful
