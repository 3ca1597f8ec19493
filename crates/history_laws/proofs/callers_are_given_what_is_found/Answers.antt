use Rattle.history_laws.proofs.Finding as law
use Rattle.history_laws.proofs.Fronting as fronting
use Rattle.history_laws.proofs.callers_are_given_what_is_found.Goals as goal

pub returns-clause-found : goal.returns-clause-found
returns-clause-found c = law.each_is_found

pub returns-clause-fronts : goal.returns-clause-fronts
returns-clause-fronts c = fronting.each_is_fronted
