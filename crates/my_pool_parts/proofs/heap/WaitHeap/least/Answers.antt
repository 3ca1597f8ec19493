use Rattle.std.proofs.Common.{◌<◌, refl, subst, sym, arith, length}
use Rattle.std.proofs.lemmas.Bool.Decides.{nat_tests}
use Rattle.my_pool_parts.specs.declared.entry.Entry.{Entry}
use Rattle.my_pool_parts.specs.Ages.{IsLeast}
use Rattle.my_pool_parts.specs.Tree.{slot_at}
use Rattle.my_pool_parts.proofs.Slots.Links.{read-entry}
use Rattle.my_pool_parts.proofs.Slots.Least.{first-is-least}
use Rattle.my_pool_parts.proofs.heap.WaitHeap.least.Goals as goal

pub returns : goal.returns
returns c =
    let t = c.self.inside.tree in
    let some : 0 < length t.entries.items = grind (arith, nat_tests, c.is_empty.ensures.answer, c.if-is_empty.false) in
    let first = first-is-least (length t.entries.items) refl c.self.invariant.linked c.self.invariant.ordered c.self.invariant.distinct some in
    let read = read-entry t.entries.items 0 c.get.result (omega (arith, some)) c.get.ensures.element in
    (slot_at t.entries.items 0, subst (λ ages. IsLeast ages (slot_at t.entries.items 0) c.get.result.age) c.self.view_is (subst (λ (e : Entry). IsLeast t.ages.items (slot_at t.entries.items 0) e.age) (sym read) first))
