use Rattle.std.proofs.Common.{◌-◌, ◌++◌, ap, ◌∙◌, arith}
use Rattle.my_pool_core.specs.State.{State}
use Rattle.my_pool_parts.specs.Connections.{lasting, outdated}
use Rattle.my_pool_core.specs.contracts.pool.Core.{the_view}
use Rattle.my_pool_core.proofs.Keeping.{kept-swept}
use Rattle.my_pool_core.proofs.pool.Core.check_ttl.Goals as goal

pub invariant_of-self : goal.invariant_of-self
invariant_of-self c =
    let s : State = the_view c.self.inside in
    let many = c.saturating_sub-many.ensures ∙ ap (λ n. n - s.limits.min) (c.count_idle-idle.ensures) in
    let items = ap (λ x. x.list) c.sweep.ensures.state ∙ ap (λ k. lasting c.args.now s.limits.inactive k 0 s.connections ++ outdated c.args.now s.limits.inactive k 0 s.connections) many in
    kept-swept c.args.now s _ _ _ _ _ c.self.invariant (cc (items, ap (λ x. x.next) c.sweep.ensures.state)) (omega (arith, ap (λ x. x.room) c.sweep.ensures.state)) (ap (λ x. x.coming) c.sweep.ensures.state)
