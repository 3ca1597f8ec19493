use Rattle.auth_laws.proofs.Refuting as law
use Rattle.auth_laws.proofs.right_chains_are_done.Goals as goal

pub returns-clause-switched : goal.returns-clause-switched
returns-clause-switched c = law.switched_login

pub returns-clause-cached : goal.returns-clause-cached
returns-clause-cached c = law.cached_login
