-- Prepared statements by their numbers, which follow from the steps and their answers alone.
use Rattle.std.specs.Prelude.{ℕ, List, [], ◌∷◌, ◌++◌, Option, Some, None, slice_get, slice_set}
use Rattle.my_statements.specs.Prepared.{StatementView}
use Rattle.my_script.specs.declared.step.Step.{Step}
use Rattle.my_script.specs.declared.step.Step.TheVariants.{Execute, CloseStatement}
use Rattle.my_script.specs.declared.transcript.Outcome.{Outcome}
use Rattle.my_script.specs.declared.transcript.Outcome.TheVariants.{Prepared, NoSuchHandle}

-- the number of the statement that a step names
abbrev pub named_statement : Step → Option ℕ
named_statement (Execute n number params) = Some number
named_statement (CloseStatement n number) = Some number
named_statement step = None

-- a number that was given is of no use any more
abbrev pub spent : ℕ → List (Option StatementView) → List (Option StatementView)
spent number given = slice_set given number None

abbrev pub spent_by : Step → List (Option StatementView) → List (Option StatementView)
spent_by (CloseStatement n number) given = spent number given
spent_by step given = given

-- A statement that was prepared takes the next number. A step that closes one spends its number, also where the call fails or isn't ended;
-- a step that is refused changes nothing.
abbrev pub statements_by : List (Option StatementView) → Step → Outcome → List (Option StatementView)
statements_by given step (Prepared statement) = given ++ Some statement ∷ []
statements_by given step NoSuchHandle = given
statements_by given step outcome = spent_by step given

abbrev pub unless_spent : Option (Option StatementView) → Option StatementView
unless_spent None = None
unless_spent (Some place) = place

-- the statement of this number, where it was given and isn't spent
abbrev pub statement_at : List (Option StatementView) → ℕ → Option StatementView
statement_at given number = unless_spent (slice_get given number)

-- the statement that a step names
abbrev pub statement_named : Option ℕ → List (Option StatementView) → Option StatementView
statement_named None given = None
statement_named (Some number) given = statement_at given number
