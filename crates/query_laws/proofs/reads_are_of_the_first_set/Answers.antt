use Rattle.query_laws.proofs.Gathering as law
use Rattle.query_laws.proofs.reads_are_of_the_first_set.Goals as goal

pub returns-clause-query : goal.returns-clause-query
returns-clause-query g c = law.query_is_read _

pub returns-clause-execution : goal.returns-clause-execution
returns-clause-execution g c = law.execution_is_read _

pub returns-clause-set : goal.returns-clause-set
returns-clause-set g c = law.query_has_set _
