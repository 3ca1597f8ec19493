use Rattle.std.proofs.Common.{◌≡◌, Some, None, sym, ap, ◌∙◌, subst, cond}
use Rattle.std.specs.HashMap.{get}
use Rattle.std.specs.List.{find}
use Rattle.my_frame.specs.Lists.{without}
use Rattle.my_statements.specs.Cache.{cached, has_id}
use Rattle.my_statements.specs.Indexed.{Finds, IsIndexed, list_of, capacity_of}
use Rattle.my_frame.proofs.Finding.{without-unfound}
use Rattle.my_statements.proofs.Apart.{same_text}
use Rattle.my_statements.proofs.Steps.{found-at, finds-without, left-of, removed}
use Rattle.my_statements.proofs.cache.StmtCache.remove.Goals as goal

pub invariant_of-self : goal.invariant_of-self
invariant_of-self c =
    let i = c.self.inside in
    let n = c.args.id in
    let at : find (has_id n) (list_of i.entries) ≡ Some c.in-Some.entry = sym (found-at n i.entries c.self.invariant.numbered) ∙ sym c.pop.ensures.value ∙ c.in-Some.is in
    let text = c.as_slice.ensures ∙ c.query.ensures in
    let found = finds-without n (list_of i.entries) c.in-Some.entry i.ids c.remove.new.self c.self.invariant.apart at c.self.invariant.found
    (λ q. c.remove.ensures.updates.0 q ∙ ap (λ t. cond (same_text t q) None (get same_text i.ids q)) text) in
    subst (λ e. IsIndexed e c.remove.new.self i.keeps) (sym c.pop.ensures.entries) (removed n i.entries i.ids c.remove.new.self i.keeps c.self.invariant found)

pub invariant_of-self-in_default : goal.invariant_of-self-in_default
invariant_of-self-in_default c =
    let i = c.self.inside in
    let n = c.args.id in
    let none : find (has_id n) (list_of i.entries) ≡ None = sym (found-at n i.entries c.self.invariant.numbered) ∙ sym c.pop.ensures.value ∙ c.in_default.is in
    subst (λ e. IsIndexed e i.ids i.keeps) (sym c.pop.ensures.entries)
    (removed n i.entries i.ids i.ids i.keeps c.self.invariant (subst (Finds i.ids) (sym (without-unfound (has_id n) (list_of i.entries) none)) c.self.invariant.found))

pub returns-in-Some : goal.returns-in-Some
returns-in-Some c =
    let i = c.self.inside in
    rw c.pop.ensures.entries (ap (λ l. cached l (capacity_of i.keeps i.entries)) (left-of c.args.id i.entries c.self.invariant.numbered)
    ∙ ap (λ v. cached (without (has_id c.args.id) v.list) v.capacity) c.self.view_is)

pub returns-in_default : goal.returns-in_default
returns-in_default c =
    let i = c.self.inside in
    rw c.pop.ensures.entries (ap (λ l. cached l (capacity_of i.keeps i.entries)) (left-of c.args.id i.entries c.self.invariant.numbered)
    ∙ ap (λ v. cached (without (has_id c.args.id) v.list) v.capacity) c.self.view_is)
