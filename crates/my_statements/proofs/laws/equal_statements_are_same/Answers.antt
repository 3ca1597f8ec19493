use Rattle.my_statements.proofs.Same.{statement_same}
use Rattle.my_statements.proofs.laws.equal_statements_are_same.Goals as goal

pub returns : goal.returns
returns c = statement_same
