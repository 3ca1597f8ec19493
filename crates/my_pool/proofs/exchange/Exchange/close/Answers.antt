use Rattle.std.proofs.Common.{refl, arith, ◌∙◌}
use Rattle.my_pool_core.specs.declared.event.PoolEvent.TheVariants as events
use Rattle.my_pool_core.specs.Events.{close}
use Rattle.my_pool_core.proofs.Placed.Moves.{places-move}
use Rattle.my_pool.proofs.Waiting.{close-ages}
use Rattle.my_pool.proofs.Wholes.{stored-still, whole-step}
use Rattle.my_pool.proofs.exchange.Exchange.close.Goals as goal

pub invariant_of-self : goal.invariant_of-self
invariant_of-self g c =
    let i = c.self.inside in
    let w = c.self.invariant in
    whole-step _ i.core c.close.new.self events.Close i.shelf i.shelf i.wakers c.call_closed.new.self _ _ _ w
    refl c.close.ensures (λ e. cc)
    (rw c.close.ensures (stored-still i.core (close i.core) i.shelf.kept w.stored (places-move i.core events.Close w.sound refl)))
    (omega arith)
    (c.call_closed.ensures.ages ∙ close-ages i.core c.close.new.self i.wakers.ages w.sound c.close.ensures)
    c.call_closed.ensures.room c.note.ensures

pub returns-clause-called : goal.returns-clause-called
returns-clause-called g c =
    let i = c.self.inside in
    rw (← c.self.view_is) (c.call_closed.ensures.ages ∙ close-ages i.core c.close.new.self i.wakers.ages c.self.invariant.sound c.close.ensures)
