-- The commands by which answers begin, as exchanges.
use Rattle.std.specs.Prelude.{ℕ, ◌≡◌, List, Some}
use Rattle.my_grammar.specs.declared.spot.Terms.{Terms}
use Rattle.my_grammar.specs.Talk.{Talk}
use Rattle.my_params.specs.declared.params.Params.{Params}
use Rattle.my_reading.specs.Commands.{execution, queried}
use Rattle.my_reading.specs.Executions.{values_for}
use Rattle.my_reading.specs.Statements.{Statements}
use Rattle.my_statements.specs.Prepared.{StatementView}

-- the exchange of a query of this text
abbrev pub IsQuery : List ℕ → Talk → Type 0
IsQuery text t = (terms : Terms) × (t ≡ queried terms text)

-- the exchange in which this statement is executed with these parameters
abbrev pub IsExecution : StatementView → Params → Talk → Type 0
IsExecution statement params t = (terms : Terms) × (known : Statements)
    × (execution terms known statement.inner.id (values_for statement params) ≡ Some t)
