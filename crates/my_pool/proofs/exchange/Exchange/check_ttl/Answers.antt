use Rattle.std.proofs.Common.{true, refl, arith}
use Rattle.my_pool_core.specs.declared.event.PoolEvent.TheVariants as events
use Rattle.my_pool_core.specs.Events.{check_ttl}
use Rattle.my_pool_core.specs.Moves.{is_aged}
use Rattle.my_pool_core.proofs.Placed.Moves.{places-move}
use Rattle.my_pool.proofs.Requesting.{aged-stored}
use Rattle.my_pool.proofs.Waiting.{quiet-ages}
use Rattle.my_pool.proofs.Wholes.{whole-step}
use Rattle.my_pool.proofs.exchange.Exchange.check_ttl.Goals as goal

pub invariant_of-self : goal.invariant_of-self
invariant_of-self g c =
    let i = c.self.inside in
    let w = c.self.invariant in
    let at = c.check_ttl-moved.ensures.state in
    whole-step _ i.core c.check_ttl-moved.new.self (events.CheckTtl c.args.now) i.shelf i.shelf i.wakers i.wakers _ _ _ w
    refl at (λ e. cc)
    (rw at (aged-stored (is_aged c.args.now i.core.limits.inactive) true i.core (check_ttl c.args.now i.core) i.shelf.kept w.stored (places-move i.core (events.CheckTtl c.args.now) w.sound refl)))
    (omega arith)
    (quiet-ages i.core c.check_ttl-moved.new.self (events.CheckTtl c.args.now) i.wakers.ages w.sound refl at (λ a. refl) (λ a. refl) w.called)
    refl c.note.ensures

pub returns-clause-called : goal.returns-clause-called
returns-clause-called g c =
    let i = c.self.inside in
    let w = c.self.invariant in
    rw (← c.self.view_is) (quiet-ages i.core c.check_ttl-moved.new.self (events.CheckTtl c.args.now) i.wakers.ages w.sound refl c.check_ttl-moved.ensures.state (λ a. refl) (λ a. refl) w.called)
