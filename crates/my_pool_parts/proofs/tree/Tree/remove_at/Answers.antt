use Rattle.std.proofs.Common.{◌≡◌, ℕ, ◌<◌, ◌+◌, ◌-◌, sym, ◌∙◌, subst, arith, length}
use Rattle.my_pool_parts.specs.Tree.{age_at, IsOrdered, IsOrderedBut}
use Rattle.my_pool_parts.proofs.Slots.Held.{front-age, front-length}
use Rattle.my_pool_parts.proofs.Sifting.{traded, but-removed, but-same, ordered-same}
use Rattle.my_pool_parts.proofs.tree.Tree.remove_at.Goals as goal

pub restore-requires-clause-but : goal.restore-requires-clause-but
restore-requires-clause-but g c =
    let mid = c.swap.new.self.entries in
    let new = c.drop_last.new.self.entries in
    let last = c.len-last.result - 1 in
    let count : length c.args.self.now.entries.items ≡ last + 1 = omega (arith, c.requires.within, c.len-last.ensures) in
    let left : length mid.items - 1 ≡ last = omega (arith, count, c.swap.ensures.swapped.len) in
    let same = λ (k : ℕ) (l : k < last). front-age mid.items new.items (length mid.items - 1) k c.drop_last.ensures.entries (omega (arith, left, l)) in
    let len : length new.items ≡ last = omega (arith, front-length mid.items new.items (length mid.items - 1) c.drop_last.ensures.entries (omega arith), left) in
    let but = but-removed count c.requires.within c.requires.ordered (traded c.swap.ensures.swapped) in
    subst (λ n. IsOrderedBut n (age_at new.items) c.args.i) (sym len) (but-same c.if-i-last.true but same)

pub returns-else-i-last-clause-ordered : goal.returns-else-i-last-clause-ordered
returns-else-i-last-clause-ordered g c =
    let mid = c.swap.new.self.entries in
    let new = c.drop_last.new.self.entries in
    let last = c.len-last.result - 1 in
    let t = traded c.swap.ensures.swapped in
    let count : length c.args.self.now.entries.items ≡ last + 1 = omega (arith, c.requires.within, c.len-last.ensures) in
    let left : length mid.items - 1 ≡ last = omega (arith, count, c.swap.ensures.swapped.len) in
    let at : c.args.i ≡ last = omega (arith, c.if-i-last.false, c.requires.within, count) in
    let same = λ (k : ℕ) (l : k < last). front-age mid.items new.items (length mid.items - 1) k c.drop_last.ensures.entries (omega (arith, left, l)) ∙ t.others k (λ e. absurd (omega (arith, at, l))) (λ e. absurd (omega (arith, l))) in
    let len : length new.items ≡ last = omega (arith, front-length mid.items new.items (length mid.items - 1) c.drop_last.ensures.entries (omega arith), left) in
    let fewer : IsOrdered last (age_at c.args.self.now.entries.items) = λ p k lo hi l. c.requires.ordered p k lo hi (omega (arith, count, l)) in
    subst (λ n. IsOrdered n (age_at new.items)) (sym len) (ordered-same fewer same)
