-- What a prepared statement is to its caller.
use Rattle.std.specs.Prelude.{ℕ, List}
use Rattle.my_statements.specs.declared.statement.StmtInner.{StmtInner}

-- what the server told of it, and the name of each place of a parameter, or no names where its text has none
pub record StatementView : Type 0 where
  pub inner : StmtInner
  pub names : List (List ℕ)
