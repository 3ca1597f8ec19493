use Rattle.std.proofs.Common.{◌≡◌, ◌<◌, ◌≤◌, ◌+◌, ◌*◌, sym, ◌∙◌, subst, arith, refl, length}
use Rattle.std.proofs.lemmas.Bool.{ltb-true}
use Rattle.my_pool_parts.specs.Tree.{age_at, IsOrderedBut}
use Rattle.my_pool_parts.proofs.Sifting.{traded, down-but, down-below}
use Rattle.my_pool_parts.proofs.Sifting.Depth.{starts-deep, down-depth}
use Rattle.my_pool_parts.proofs.tree.Tree.sift_down.Goals as goal

pub loop-i-init : goal.loop-i-init
loop-i-init g c = record {
  linked = c.requires.linked;
  len = refl;
  within = c.requires.within;
  but = c.requires.but;
  below = c.requires.below;
  ages = refl;
  capacity = omega arith;
  left = λ d lt. (d, starts-deep _ c.args.start d lt, omega arith);
}

pub loop-i-preserved : goal.loop-i-preserved
loop-i-preserved g c =
    let was = c.loop-i.invariant in
    let i = c.loop-i.i in
    let b = c.older_after-following.result in
    let age = age_at c.loop-i.self.entries.items in
    let new = age_at c.swap.new.self.entries.items in
    let following = c.older_after-following.ensures in
    let len : length c.swap.new.self.entries.items ≡ length c.loop-i.self.entries.items = omega (arith, c.swap.ensures.swapped.len) in
    let older : age b < age i = ltb-true _ _ (sym c.is_older.ensures.answer ∙ c.if-not-is_older.false) in
    let t = traded c.swap.ensures.swapped in
    let room : 2 * i + 2 ≤ length c.args.self.now.entries.items = omega (arith, c.loop-i-test.true, c.len.ensures, was.len) in
    record {
      linked = c.swap.ensures.linked;
      len = len ∙ was.len;
      within = omega (arith, len, following.within);
      but = subst (λ n. IsOrderedBut n new b) (sym len) (down-but following.low following.high following.within was.but following.least t);
      below = down-below following.low following.high older t;
      ages = c.swap.ensures.ages ∙ was.ages;
      capacity = omega (arith, c.swap.ensures.capacity, was.capacity);
      left = λ d lt.
          let f = was.left d lt in
          let k = down-depth f.0 _ i b f.1 room following.low in
          (k.0, k.2, omega (arith, f.2, k.1, c.is_older.ensures.cost, following.cost));
    }
