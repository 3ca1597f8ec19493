use Rattle.std.proofs.Common.{◌<◌, ◌-◌, None, length, set, take, refl, sym, ap, ◌∙◌, arith}
use Rattle.my_pool_parts.specs.declared.entry.Entry.{Entry}
use Rattle.my_pool_parts.proofs.Slots.Links.{slot-within, read-entry}
use Rattle.my_pool_parts.proofs.Slots.{linked-dropped, linked-as}
use Rattle.my_pool_parts.proofs.tree.Tree.drop_last.Goals as goal

pub set-requires : goal.set-requires
set-requires c =
    let old = c.args.self.now in
    let lt : c.len-last.result - 1 < length old.entries.items = omega arith in
    let e = read-entry old.entries.items (c.len-last.result - 1) c.get.result lt c.get.ensures.element in
    omega (arith, slot-within (c.len-last.result - 1) c.requires.linked lt, ap (λ (x : Entry). x.slot) e, c.requires.linked.sizes)

pub returns-clause-linked : goal.returns-clause-linked
returns-clause-linked c =
    let old = c.args.self.now in
    let lt : c.len-last.result - 1 < length old.entries.items = omega arith in
    let e = read-entry old.entries.items (c.len-last.result - 1) c.get.result lt c.get.ensures.element in
    let h = linked-dropped (c.len-last.result - 1) c.requires.linked (omega arith) in
    linked-as h (ap (λ s. set old.ages.items s None) (sym (ap (λ (x : Entry). x.slot) e)) ∙ sym c.set.ensures.items) refl (ap (λ n. take n old.entries.items) (ap (λ n. n - 1) c.len-last.ensures.count) ∙ sym c.drop_last.ensures.items)
