use Rattle.std.proofs.Common.{refl, arith}
use Rattle.my_pool_core.specs.declared.event.PoolEvent.TheVariants as events
use Rattle.my_pool.proofs.Waiting.{quiet-ages}
use Rattle.my_pool.proofs.Wholes.{whole-step}
use Rattle.my_pool.proofs.exchange.Exchange.poll_disconnect.Goals as goal

pub invariant_of-self : goal.invariant_of-self
invariant_of-self g c =
    let i = c.self.inside in
    let w = c.self.invariant in
    whole-step _ i.core i.core events.PollDisconnect i.shelf i.shelf i.wakers i.wakers _ _ _ w
    refl refl (λ e. cc) w.stored (omega arith)
    (quiet-ages i.core i.core events.PollDisconnect i.wakers.ages w.sound refl refl (λ a. refl) (λ a. refl) w.called)
    refl c.note.ensures

pub returns-clause-called : goal.returns-clause-called
returns-clause-called g c =
    let i = c.self.inside in
    let w = c.self.invariant in
    rw (← c.self.view_is) (quiet-ages i.core i.core events.PollDisconnect i.wakers.ages w.sound refl refl (λ a. refl) (λ a. refl) w.called)
