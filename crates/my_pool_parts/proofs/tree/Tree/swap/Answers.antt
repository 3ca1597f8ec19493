use Rattle.std.proofs.Common.{◌<◌, length, set, length-set, refl, sym, ap, ◌∙◌, subst, arith}
use Rattle.my_pool_parts.specs.declared.entry.Entry.{Entry}
use Rattle.my_pool_parts.specs.Tree.{IsSwapped}
use Rattle.my_pool_parts.proofs.Slots.{linked-as}
use Rattle.my_pool_parts.proofs.Slots.Links.{slot-within, read-entry, swapped-set, links-set, linked-swapped}
use Rattle.my_pool_parts.proofs.tree.Tree.swap.Goals as goal

pub set-requires-3 : goal.set-requires-3
set-requires-3 c =
    let old = c.args.self.now in
    let e = read-entry old.entries.items c.args.j c.get-second.result (omega arith) c.get-second.ensures.element in
    omega (arith, slot-within c.args.j c.requires.linked (omega arith), ap (λ (x : Entry). x.slot) e)

pub set-requires-4 : goal.set-requires-4
set-requires-4 c =
    let old = c.args.self.now in
    let e = read-entry old.entries.items c.args.i c.get-first.result (omega arith) c.get-first.ensures.element in
    omega (arith, slot-within c.args.i c.requires.linked (omega arith), ap (λ (x : Entry). x.slot) e, ap length c.set-3.ensures.items, length-set old.places.items c.get-second.result.slot c.args.i)

pub returns-clause-linked : goal.returns-clause-linked
returns-clause-linked c =
    let old = c.args.self.now in
    let li : c.args.i < length old.entries.items = omega arith in
    let lj : c.args.j < length old.entries.items = omega arith in
    linked-as (linked-swapped (links-set c.args.i c.args.j c.get-first.result c.get-second.result c.requires.linked li lj (read-entry old.entries.items c.args.i c.get-first.result li c.get-first.ensures.element) (read-entry old.entries.items c.args.j c.get-second.result lj c.get-second.ensures.element)))
    refl (sym (c.set-4.ensures.items ∙ ap (λ ps. set ps c.get-first.result.slot c.args.j) c.set-3.ensures.items)) (sym (c.set-2.ensures.items ∙ ap (λ es. set es c.args.j c.get-first.result) c.set.ensures.items))

pub returns-clause-swapped : goal.returns-clause-swapped
returns-clause-swapped c =
    let old = c.args.self.now in
    let li : c.args.i < length old.entries.items = omega arith in
    let lj : c.args.j < length old.entries.items = omega arith in
    subst (λ es. IsSwapped old.entries.items es c.args.i c.args.j) (sym (c.set-2.ensures.items ∙ ap (λ es. set es c.args.j c.get-first.result) c.set.ensures.items)) (swapped-set old.entries.items c.args.i c.args.j c.get-first.result c.get-second.result li lj (read-entry old.entries.items c.args.i c.get-first.result li c.get-first.ensures.element) (read-entry old.entries.items c.args.j c.get-second.result lj c.get-second.ensures.element))
