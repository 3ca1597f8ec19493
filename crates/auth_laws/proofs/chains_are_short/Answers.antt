use Rattle.auth_laws.proofs.Chaining as law
use Rattle.auth_laws.proofs.chains_are_short.Goals as goal

pub returns-clause-short : goal.returns-clause-short
returns-clause-short c = law.short

pub returns-clause-passwords : goal.returns-clause-passwords
returns-clause-passwords c = law.passwords_stay
