use Rattle.std.proofs.Common.{None, ap, subst, sym, ◌∙◌, arith, length, set, length-set}
use Rattle.my_pool_parts.specs.Ages.{AreDistinct}
use Rattle.my_pool_parts.proofs.Slots.Held.{held-at}
use Rattle.my_pool_parts.proofs.Slots.Least.{distinct-freed}
use Rattle.my_pool_parts.proofs.heap.WaitHeap.remove.Goals as goal

pub remove_at-requires-clause-within : goal.remove_at-requires-clause-within
remove_at-requires-clause-within g c =
    let at = held-at c.args.slot c.get-place.result c.self.invariant.linked c.self.view_is c.requires c.get-place.ensures.element in
    omega (arith, at.within)

pub invariant_of-self : goal.invariant_of-self
invariant_of-self g c =
    let t = c.self.inside.tree in
    let at = held-at c.args.slot c.get-place.result c.self.invariant.linked c.self.view_is c.requires c.get-place.ensures.element in
    let ages = c.remove_at.ensures.ages ∙ ap (λ s. set t.ages.items s None) at.same in
    record {
      linked = c.remove_at.ensures.linked;
      ordered = c.remove_at.ensures.ordered;
      distinct = subst AreDistinct (sym ages) (distinct-freed t.ages.items c.args.slot at.reserved c.self.invariant.distinct);
      room = omega (arith, c.self.invariant.room, c.remove_at.ensures.capacity, ap length ages, length-set t.ages.items c.args.slot None);
    }

pub returns-clause-ages : goal.returns-clause-ages
returns-clause-ages g c =
    let at = held-at c.args.slot c.get-place.result c.self.invariant.linked c.self.view_is c.requires c.get-place.ensures.element in
    c.remove_at.ensures.ages ∙ ap (λ s. set c.self.inside.tree.ages.items s None) at.same ∙ ap (λ ages. set ages c.args.slot None) c.self.view_is
