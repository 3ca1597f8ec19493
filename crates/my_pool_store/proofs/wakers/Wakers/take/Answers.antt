use Rattle.std.proofs.Common.{◌≡◌, Some, None, sym, ap, ◌∙◌}
use Rattle.std.specs.Prelude.{position, ◌==◌}
use Rattle.my_pool_parts.proofs.Finding.{without-position, without-nothing}
use Rattle.my_pool_store.proofs.wakers.Wakers.take.Goals as goal

pub returns-in-Some-clause-ages : goal.returns-in-Some-clause-ages
returns-in-Some-clause-ages g c =
    let at : position (λ a. a == c.args.age) c.self.inside.ages.items ≡ Some c.in-Some.index = ap (position (λ a. a == c.args.age)) (sym c.deref.ensures.value) ∙ sym c.index_of.ensures ∙ c.in-Some.is in
    rw (← c.self.view_is) (c.remove.ensures.items ∙ sym (without-position (λ a. a == c.args.age) c.self.inside.ages.items c.in-Some.index at))

pub returns-in-None-clause-ages : goal.returns-in-None-clause-ages
returns-in-None-clause-ages g c =
    let at : position (λ a. a == c.args.age) c.self.inside.ages.items ≡ None = ap (position (λ a. a == c.args.age)) (sym c.deref.ensures.value) ∙ sym c.index_of.ensures ∙ c.in-None.is in
    rw (← c.self.view_is) (sym (without-nothing (λ a. a == c.args.age) c.self.inside.ages.items at))
