use Rattle.std.proofs.Common.{None, ap, ◌∙◌, subst}
use Rattle.my_pool_parts.specs.Next.{least_at}
use Rattle.my_pool_core.specs.Sound.{IsSound}
use Rattle.my_pool_core.proofs.Nexting.{next-is}
use Rattle.my_pool_core.proofs.pool.Core.next_at.Goals as goal

pub returns : goal.returns
returns c =
    let sound = subst IsSound c.self.view_is c.self.invariant.sound in
    next-is c.args.kind c.args.from c.args.self.now c.next_at.result sound
    (c.next_at.ensures ∙ ap (least_at c.args.kind c.args.from None) (ap (λ s. s.connections) c.self.view_is))
