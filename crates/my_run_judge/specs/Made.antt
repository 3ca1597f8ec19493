-- What the earlier lines made of a stream and a transaction at a connection, and of the prepared statements by their numbers.
use Rattle.std.specs.Prelude.{ℕ, [], Option}
use Rattle.my_statements.specs.Prepared.{StatementView}
use Rattle.my_script.specs.declared.step.Step.{Step}
use Rattle.my_script.specs.Beside.{beside_by, nothing_beside}
use Rattle.my_script.specs.Numbered.{named_statement, statement_named, statements_by}
use Rattle.my_script.specs.declared.transcript.Outcome.{Outcome}
use Rattle.my_run_judge.specs.declared.made.Made.{Made}

-- before the first line
abbrev pub nothing_made : Made
nothing_made = record { beside = nothing_beside; statements = [] }

-- after a line, at connection n
abbrev pub made_by : ℕ → Made → Step → Outcome → Made
made_by n m step outcome =
    record { beside = beside_by n m.beside step outcome; statements = statements_by m.statements step outcome }

-- the statement that a step names, where it was prepared and isn't closed
abbrev pub statement_for : Made → Step → Option StatementView
statement_for m step = statement_named (named_statement step) m.statements
