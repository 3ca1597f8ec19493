use Rattle.std.proofs.Common.{ℕ, List, ap, ◌∙◌}
use Rattle.my_reply.specs.declared.column.Column.{Column}
use Rattle.my_statements.specs.Cache.{held}
use Rattle.my_reading.specs.Statements.{Statements, with_new, with_prepared}
use Rattle.my_reading.proofs.statements.Statements.keep.Goals as goal

pub returns-clause-ok : goal.returns-clause-ok
returns-clause-ok c =
    let h = held c.args.query.items c.args.inner in
    c.in_ok-leaving.ensures.ok
    ∙ ap (λ (known : List (ℕ × List Column)). let s : Statements = record { cache = with_new h c.self.inside.cache; known = known } in s) c.in_ok-put.ensures.ok
    ∙ ap (with_prepared c.args.query.items c.args.inner c.args.fields) c.self.view_is
