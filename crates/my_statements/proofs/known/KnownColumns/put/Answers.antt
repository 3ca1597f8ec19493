use Rattle.std.proofs.Common.{ap, ◌∙◌}
use Rattle.my_statements.specs.Known.{known_put}
use Rattle.my_statements.proofs.Knowing.{put-is, put-kept}
use Rattle.my_statements.proofs.known.KnownColumns.put.Goals as goal

pub invariant_of-self : goal.invariant_of-self
invariant_of-self c = put-kept c.put.result c.args.id c.args.columns c.put.new.self c.self.inside.sets c.put.ensures.entries c.put.ensures.err c.self.invariant

pub returns-in-Ok-clause-ok : goal.returns-in-Ok-clause-ok
returns-in-Ok-clause-ok c =
    ap (λ n. n.entries) c.in-Ok.ensures.entries ∙ put-is c.args.id c.args.columns c.self.inside.sets c.self.invariant.0 c.self.invariant.1 ∙ ap (known_put c.args.id c.args.columns) c.self.view_is
