use Rattle.std.proofs.Common.{◌≡◌, ◌-◌, ◌++◌, None, length, replicate, sym, ap, ◌∙◌}
use Rattle.my_pool_parts.proofs.Slots.{linked-grown, linked-as, refilled}
use Rattle.my_pool_parts.proofs.tree.Tree.reserve.Goals as goal

pub returns-clause-linked : goal.returns-clause-linked
returns-clause-linked c =
    let old = c.args.self.now in
    let more = c.args.slots - length old.ages.items in
    let count : c.args.slots - length old.places.items ≡ more = ap (λ n. c.args.slots - n) c.requires.sizes in
    linked-as (linked-grown more c.requires)
    (sym (refilled old.ages.items c.reserve-3.new.self.items c.args.slots None c.reserve-3.ensures.items c.fill-2.ensures.items))
    (sym (refilled old.places.items c.reserve-2.new.self.items c.args.slots 0 c.reserve-2.ensures.items c.fill.ensures.items ∙ ap (λ n. old.places.items ++ replicate n 0) count))
    (sym c.reserve.ensures.items)
