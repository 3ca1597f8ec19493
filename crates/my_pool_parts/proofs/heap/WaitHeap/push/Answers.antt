use Rattle.std.proofs.Common.{◌≡◌, ℕ, ◌<◌, ◌+◌, ◌^◌, [], ◌∷◌, length, sym, ap, ◌∙◌, subst, arith}
use Rattle.std.proofs.lemmas.List.{get_or_append_left, length_push}
use Rattle.my_pool_parts.specs.declared.entry.Entry.{Entry}
use Rattle.my_pool_parts.specs.Ages.{age_of, how_many}
use Rattle.my_pool_parts.specs.Tree.{entry, nobody, entry_at, age_at, IsOrderedBut}
use Rattle.my_pool_parts.proofs.Sifting.{but-added}
use Rattle.my_pool_parts.proofs.Sifting.Depth.{add-depth}
use Rattle.my_pool_parts.proofs.Slots.{how_many-room}
use Rattle.my_pool_parts.proofs.heap.WaitHeap.push.Goals as goal

pub add-requires-clause-room : goal.add-requires-clause-room
add-requires-clause-room g c =
    let t = c.self.inside.tree in
    let few = how_many-room t.ages.items c.args.slot (omega (arith, ap length c.self.view_is)) (ap (λ ages. age_of ages c.args.slot) c.self.view_is ∙ c.requires.free) in
    omega (arith, few, c.self.invariant.linked.counted, c.self.invariant.room)

pub sift_up-requires-clause-but : goal.sift_up-requires-clause-but
sift_up-requires-clause-but g c =
    let t = c.self.inside.tree in
    let new = c.add.new.self in
    let last = c.len-last.result in
    let all = ap length c.add.ensures.entries ∙ length_push t.entries.items (entry c.args.slot c.args.age) in
    let len : length new.entries.items ≡ length t.entries.items + 1 = omega (arith, all) in
    let same = λ (k : ℕ) (l : k < length t.entries.items). ap (λ (e : Entry). e.age) (ap (λ es. entry_at es k) c.add.ensures.entries ∙ get_or_append_left t.entries.items (entry c.args.slot c.args.age ∷ []) nobody k (omega (arith, l))) in
    subst (λ n. IsOrderedBut n (age_at new.entries.items) last) (sym len) (subst (λ i. IsOrderedBut (length t.entries.items + 1) (age_at new.entries.items) i) (sym c.len-last.ensures.count) (but-added c.self.invariant.ordered same))

pub returns-clause-cost : goal.returns-clause-cost
returns-clause-cost g c = λ d lt.
    let t = c.self.inside.tree in
    let few : c.len-last.result < 2 ^ d = omega (arith, c.len-last.ensures, c.self.invariant.linked.counted, ap how_many c.self.view_is, lt) in
    c.sift_up.ensures.cost d (add-depth c.len-last.result d few)
