use Rattle.history_laws.proofs.Running as law
use Rattle.history_laws.proofs.prefixes_are_given.Goals as goal

pub returns-clause-calls : goal.returns-clause-calls
returns-clause-calls c = law.prefixes_are_given

pub returns-clause-tapes : goal.returns-clause-tapes
returns-clause-tapes c = law.each_tape_gives
