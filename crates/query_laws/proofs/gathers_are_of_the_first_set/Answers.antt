use Rattle.query_laws.proofs.Gathering as law
use Rattle.query_laws.proofs.gathers_are_of_the_first_set.Goals as goal

pub returns-clause-query : goal.returns-clause-query
returns-clause-query g c = law.query_is_gathered _ _ _ _

pub returns-clause-execution : goal.returns-clause-execution
returns-clause-execution g c = law.execution_is_gathered _ _ _ _
