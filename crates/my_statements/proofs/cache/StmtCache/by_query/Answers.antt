use Rattle.std.proofs.Common.{◌≡◌, refl, sym, ap, ◌∙◌, subst, nat_eq}
use Rattle.std.specs.List.{find}
use Rattle.std.specs.Map.{lookup}
use Rattle.std.specs.Option.{option_map}
use Rattle.lru.specs.LruCache.{lru_cache, promoted}
use Rattle.my_statements.specs.Cache.{cached, fetched, has_query}
use Rattle.my_statements.specs.Indexed.{IsIndexed, list_of, capacity_of}
use Rattle.my_statements.proofs.Apart.{query-as-id}
use Rattle.my_statements.proofs.Numbered.{values-numbered}
use Rattle.my_statements.proofs.Steps.{found-at, the-one, fetched-is, fetched-indexed}
use Rattle.my_statements.proofs.cache.StmtCache.by_query.Goals as goal

pub invariant_of-self-2 : goal.invariant_of-self-2
invariant_of-self-2 c =
    let i = c.self.inside in
    let one = the-one (find (has_query c.args.query.now) (list_of i.entries)) c.in_ok-id.field-0.now (sym (c.self.invariant.found c.args.query.now) ∙ sym c.get.ensures.value ∙ ap (option_map (λ r. r.now)) c.in_ok-id.was) in
    subst (λ e. IsIndexed e i.ids i.keeps) (ap (λ n. lru_cache (promoted (nat_eq n) i.entries.entries) i.entries.cap) one.2 ∙ sym c.get-2.follows.holds-at-none)
    (fetched-indexed c.args.query.now one.0 i.entries i.ids i.keeps c.self.invariant one.1)

pub returns : goal.returns
returns c =
    let i = c.self.inside in
    let q = c.args.query.now in
    let one = the-one (find (has_query q) (list_of i.entries)) c.in_ok-id.field-0.now (sym (c.self.invariant.found q) ∙ sym c.get.ensures.value ∙ ap (option_map (λ r. r.now)) c.in_ok-id.was) in
    let at : c.get-2.follows.lender-at-none ≡ lru_cache (promoted (nat_eq one.0.stmt.id) i.entries.entries) i.entries.cap
    = c.get-2.follows.holds-at-none ∙ ap (λ n. lru_cache (promoted (nat_eq n) i.entries.entries) i.entries.cap) (sym one.2) in
    let made = at ∙ fetched-is q one.0 i.entries i.ids i.keeps c.self.invariant one.1 in
    let by_id = query-as-id q (list_of i.entries) one.0 c.self.invariant.apart one.1 in (
      (
        refl,
        (λ _. tt),
        rw made (ap (λ l. cached l (capacity_of i.keeps i.entries)) (values-numbered _) ∙ ap (fetched q) c.self.view_is),
      ),
      record {
        order = tt;
        value = c.get-2.ensures.value ∙ ap (λ n. lookup (nat_eq n) i.entries.entries) (sym one.2)
            ∙ found-at one.0.stmt.id i.entries c.self.invariant.numbered ∙ by_id.0 ∙ sym one.1 ∙ ap (λ v. find (has_query q) v.list) c.self.view_is;
      },
    )
