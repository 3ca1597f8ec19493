use Rattle.run_laws.proofs.Refuting.Statements as law
use Rattle.run_laws.proofs.no_statement_is_wrong.Goals as goal

pub returns : goal.returns
returns c = law.are_no_statements
