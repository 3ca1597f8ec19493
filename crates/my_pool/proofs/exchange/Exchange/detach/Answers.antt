use Rattle.std.proofs.Common.{◌≡◌, true, None, ap, ◌∙◌, arith, refl}
use Rattle.my_pool_parts.specs.Connections.{is_leased_place}
use Rattle.my_pool_core.specs.declared.event.PoolEvent.TheVariants as events
use Rattle.my_pool_core.specs.Events.{detach}
use Rattle.my_pool_core.specs.Owners.{is_lease}
use Rattle.my_pool_core.proofs.Placed.Allowing.{may-give-back}
use Rattle.my_pool_core.proofs.Placed.Moves.{places-move}
use Rattle.my_pool_store.specs.Woken.{called_at}
use Rattle.my_pool.proofs.Requesting.{holding-stored}
use Rattle.my_pool.proofs.Waiting.{oldest-ages}
use Rattle.my_pool.proofs.Wholes.{whole-step, leased-absent}
use Rattle.my_pool.proofs.exchange.Exchange.detach.Goals as goal

pub invariant_of-self : goal.invariant_of-self
invariant_of-self g c =
    let i = c.self.inside in
    let w = c.self.invariant in
    let n = c.args.number in
    let leased : is_lease n i.core ≡ true = ap (λ p. is_lease n p.state) c.self.view_is ∙ c.requires in
    let may = may-give-back i.core n leased in
    whole-step _ i.core c.detach.new.self (events.Detach n) i.shelf i.shelf i.wakers c.call_at.new.self _ _ _ w
    may c.detach.ensures (λ e. cc)
    (rw c.detach.ensures (holding-stored is_leased_place n None i.core (detach n i.core) i.shelf.kept w.stored (places-move i.core (events.Detach n) w.sound may) (λ k o. o) (leased-absent n i.core i.shelf.kept w.stored leased)))
    (omega arith)
    (c.call_at.ensures.ages ∙ ap (λ o. called_at o c.detach.new.self i.wakers.ages) c.oldest_waiting-oldest.ensures ∙ oldest-ages i.core c.detach.new.self (events.Detach n) i.wakers.ages w.sound may c.detach.ensures (λ a k. k) (λ a. refl) w.called_once w.called)
    c.call_at.ensures.room c.note.ensures

pub returns-clause-called : goal.returns-clause-called
returns-clause-called g c =
    let i = c.self.inside in
    let w = c.self.invariant in
    let n = c.args.number in
    let leased : is_lease n i.core ≡ true = ap (λ p. is_lease n p.state) c.self.view_is ∙ c.requires in
    rw (← c.self.view_is) (c.call_at.ensures.ages ∙ ap (λ o. called_at o c.detach.new.self i.wakers.ages) c.oldest_waiting-oldest.ensures ∙ oldest-ages i.core c.detach.new.self (events.Detach n) i.wakers.ages w.sound (may-give-back i.core n leased) c.detach.ensures (λ a k. k) (λ a. refl) w.called_once w.called)
