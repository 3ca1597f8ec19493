use Rattle.std.proofs.Common.{sym, ap, ◌∙◌, nat_eq}
use Rattle.std.specs.List.{find}
use Rattle.std.specs.Map.{lookup}
use Rattle.std.specs.Option.{option_map}
use Rattle.my_statements.specs.Cache.{has_query}
use Rattle.my_statements.specs.Indexed.{list_of}
use Rattle.my_statements.proofs.Apart.{query-as-id}
use Rattle.my_statements.proofs.Steps.{found-at, the-one}
use Rattle.my_statements.proofs.cache.StmtCache.peek.Goals as goal

pub returns : goal.returns
returns c =
    let i = c.self.inside in
    let q = c.args.query.now in
    let one = the-one (find (has_query q) (list_of i.entries)) c.in_ok-id.field-0.now (sym (c.self.invariant.found q) ∙ sym c.get.ensures.value ∙ ap (option_map (λ r. r.now)) c.in_ok-id.was) in
    let by_id = query-as-id q (list_of i.entries) one.0 c.self.invariant.apart one.1 in
    c.peek.ensures ∙ ap (λ n. lookup (nat_eq n) i.entries.entries) (sym one.2)
    ∙ found-at one.0.stmt.id i.entries c.self.invariant.numbered ∙ by_id.0 ∙ sym one.1 ∙ ap (λ v. find (has_query q) v.list) c.self.view_is
