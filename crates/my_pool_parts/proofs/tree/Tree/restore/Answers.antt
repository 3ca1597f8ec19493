use Rattle.std.proofs.Common.{arith}
use Rattle.my_pool_parts.proofs.Sifting.Depth.{add-depth}
use Rattle.my_pool_parts.proofs.tree.Tree.restore.Goals as goal

pub returns-then-is_older-clause-cost : goal.returns-then-is_older-clause-cost
returns-then-is_older-clause-cost g c = λ d lt.
    let up = c.sift_up.ensures.cost d (add-depth c.args.i d (omega arith)) in
    omega (arith, up, c.is_older.ensures.cost)
