use Rattle.std.proofs.Common.{◌≡◌, length, set, sym, ap, ◌∙◌, arith}
use Rattle.my_pool_parts.proofs.Slots.{linked-added, linked-as}
use Rattle.my_pool_parts.proofs.tree.Tree.add.Goals as goal

pub returns-clause-linked : goal.returns-clause-linked
returns-clause-linked c =
    let old = c.args.self.now in
    let h = linked-added c.args.slot c.args.age c.requires.linked (omega arith) c.requires.free in
    let len : c.len.result ≡ length old.entries.items = omega (arith, c.len.ensures) in
    linked-as h (sym c.set.ensures.items) (ap (set old.places.items c.args.slot) (sym len) ∙ sym c.set-2.ensures.items) (sym c.push.ensures.items)
