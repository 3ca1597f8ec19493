use Rattle.std.proofs.Common.{ap, ◌∙◌}
use Rattle.std.specs.Option.{is_some}
use Rattle.std.specs.List.{find, list_any}
use Rattle.my_statements.specs.Cache.{has_query}
use Rattle.my_statements.specs.Indexed.{list_of}
use Rattle.my_statements.proofs.Apart.{any-is_some}
use Rattle.my_statements.proofs.Steps.{some-mapped}
use Rattle.my_statements.proofs.cache.StmtCache.holds.Goals as goal

pub returns : goal.returns
returns c =
    let all = list_of c.self.inside.entries in
    let q = c.args.query.now in
    c.contains_key.ensures ∙ ap is_some (c.self.invariant.found q) ∙ some-mapped (find (has_query q) all)
    ∙ any-is_some (has_query q) all ∙ ap (λ v. list_any (has_query q) v.list) c.self.view_is
