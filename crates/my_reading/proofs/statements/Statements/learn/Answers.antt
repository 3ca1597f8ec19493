use Rattle.std.proofs.Common.{ℕ, List, ap, ◌∙◌}
use Rattle.my_reply.specs.declared.column.Column.{Column}
use Rattle.my_reading.specs.Statements.{Statements, with_columns}
use Rattle.my_reading.proofs.statements.Statements.learn.Goals as goal

pub returns-clause-ok : goal.returns-clause-ok
returns-clause-ok c =
    ap (λ (known : List (ℕ × List Column)). let s : Statements = record { cache = c.self.inside.cache; known = known } in s) c.in_ok-put.ensures.ok
    ∙ ap (with_columns c.args.id c.args.columns) c.self.view_is
