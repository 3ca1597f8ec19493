use Rattle.std.proofs.Common.{ap, ◌∙◌}
use Rattle.std.specs.Option.{is_some}
use Rattle.std.specs.List.{list_any}
use Rattle.my_statements.specs.Cache.{has_id}
use Rattle.my_statements.specs.Indexed.{list_of}
use Rattle.my_statements.proofs.Apart.{any-is_some}
use Rattle.my_statements.proofs.Steps.{found-at}
use Rattle.my_statements.proofs.cache.StmtCache.contains.Goals as goal

pub returns : goal.returns
returns c =
    let all = list_of c.self.inside.entries in
    c.contains.ensures ∙ ap is_some (found-at c.args.id c.self.inside.entries c.self.invariant.numbered)
    ∙ any-is_some (has_id c.args.id) all ∙ ap (λ v. list_any (has_id c.args.id) v.list) c.self.view_is
