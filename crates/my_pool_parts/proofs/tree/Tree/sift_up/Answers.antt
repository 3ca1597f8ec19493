use Rattle.std.proofs.Common.{◌≡◌, ◌<◌, ◌≤◌, ◌+◌, ◌-◌, ◌*◌, ◌/◌, sym, ◌∙◌, subst, arith, length}
use Rattle.std.proofs.lemmas.Bool.{ltb-true}
use Rattle.my_pool_parts.specs.Tree.{age_at, IsOrderedBut, IsAbove}
use Rattle.my_pool_parts.proofs.Sifting.{traded, up-but, up-above}
use Rattle.my_pool_parts.proofs.Sifting.Depth.{up-depth}
use Rattle.my_pool_parts.proofs.tree.Tree.sift_up.Goals as goal

pub loop-i-preserved : goal.loop-i-preserved
loop-i-preserved g c =
    let was = c.loop-i.invariant in
    let i = c.loop-i.i in
    let p = (i - 1) / 2 in
    let age = age_at c.loop-i.self.entries.items in
    let new = age_at c.swap.new.self.entries.items in
    let len : length c.swap.new.self.entries.items ≡ length c.loop-i.self.entries.items = omega (arith, c.swap.ensures.swapped.len) in
    let lo : 2 * p + 1 ≤ i = omega (arith, c.loop-i-test.true) in
    let hi : i ≤ 2 * p + 2 = omega (arith, c.loop-i-test.true) in
    let older : age i < age p = ltb-true _ _ (sym c.is_older.ensures.answer ∙ c.if-not-is_older.false) in
    let t = traded c.swap.ensures.swapped in
    record {
      linked = c.swap.ensures.linked;
      within = omega (arith, len, was.within, lo);
      but = subst (λ n. IsOrderedBut n new p) (sym len) (up-but lo hi was.within was.but older t);
      above = subst (λ n. IsAbove n new p) (sym len) (up-above lo hi was.within was.but older t);
      ages = c.swap.ensures.ages ∙ was.ages;
      capacity = omega (arith, c.swap.ensures.capacity, was.capacity);
      left = λ e lt.
          let f = was.left e lt in
          let d = up-depth f.0 i p f.1 lo in
          (d.0, d.2, omega (arith, f.2, d.1, c.is_older.ensures.cost));
    }
