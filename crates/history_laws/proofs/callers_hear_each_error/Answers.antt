use Rattle.history_laws.proofs.Telling as law
use Rattle.history_laws.proofs.Unheard as found
use Rattle.history_laws.proofs.callers_hear_each_error.Goals as goal

pub returns-clause-read : goal.returns-clause-read
returns-clause-read c = law.each_is_heard

pub returns-clause-found : goal.returns-clause-found
returns-clause-found c = found.each_is_heard_in
