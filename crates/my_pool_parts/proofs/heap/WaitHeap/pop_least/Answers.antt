use Rattle.std.proofs.Common.{◌<◌, None, refl, ap, subst, sym, arith, length, length-set}
use Rattle.std.proofs.lemmas.Bool.Decides.{nat_tests}
use Rattle.my_pool_parts.specs.declared.entry.Entry.{Entry}
use Rattle.my_pool_parts.specs.Ages.{AreDistinct, IsLeast}
use Rattle.my_pool_parts.specs.Tree.{slot_at, age_at}
use Rattle.my_pool_parts.proofs.Slots.Links.{get-some-within}
use Rattle.my_pool_parts.proofs.Slots.Least.{first-is-least, distinct-freed}
use Rattle.my_pool_parts.proofs.heap.WaitHeap.pop_least.Goals as goal

pub returns-clause-entry : goal.returns-clause-entry
returns-clause-entry g c =
    let t = c.self.inside.tree in
    let some : 0 < length t.entries.items = grind (arith, nat_tests, c.is_empty.ensures.answer, c.if-is_empty.false) in
    let first = first-is-least (length t.entries.items) refl c.self.invariant.linked c.self.invariant.ordered c.self.invariant.distinct some in
    subst (λ ages. IsLeast ages c.remove_at.result.slot c.remove_at.result.age) c.self.view_is (subst (λ (e : Entry). IsLeast t.ages.items e.slot e.age) (sym c.remove_at.ensures.entry) first)

pub invariant_of-self : goal.invariant_of-self
invariant_of-self g c =
    let t = c.self.inside.tree in
    let some : 0 < length t.entries.items = grind (arith, nat_tests, c.is_empty.ensures.answer, c.if-is_empty.false) in
    let slot = slot_at t.entries.items 0 in
    let reserved = get-some-within t.ages.items slot (age_at t.entries.items 0) (c.self.invariant.linked.held 0 some) in
    record {
      linked = c.remove_at.ensures.linked;
      ordered = c.remove_at.ensures.ordered;
      distinct = subst AreDistinct (sym c.remove_at.ensures.ages) (distinct-freed t.ages.items slot reserved c.self.invariant.distinct);
      room = omega (arith, c.self.invariant.room, c.remove_at.ensures.capacity, ap length c.remove_at.ensures.ages, length-set t.ages.items slot None);
    }
