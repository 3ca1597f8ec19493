use Rattle.std.proofs.Common.{◌≡◌, Some, None, ap, ◌∙◌, refl, arith}
use Rattle.my_pool_core.specs.declared.event.PoolEvent.TheVariants as events
use Rattle.my_pool_core.specs.Events.{failed}
use Rattle.my_pool_core.specs.Moves.{failed_token}
use Rattle.my_pool_core.specs.Owners.{is_held_place, token}
use Rattle.my_pool_core.proofs.Asked.Tokens.{may-settle}
use Rattle.my_pool_core.proofs.Placed.Moves.{places-move}
use Rattle.my_pool_store.specs.Woken.{called_at}
use Rattle.my_pool_store.proofs.Leaving.{failed-leaves}
use Rattle.my_pool.proofs.Burying.{left-fits, left-room}
use Rattle.my_pool.proofs.Requesting.{held-absent, holding-stored, failed-own}
use Rattle.my_pool.proofs.Waiting.{oldest-ages}
use Rattle.my_pool.proofs.Wholes.{whole-went}
use Rattle.my_pool.proofs.exchange.Exchange.failed.Goals as goal

pub put_left-requires : goal.put_left-requires
put_left-requires g c = λ some.
    let i = c.self.inside in
    let w = c.self.invariant in
    let age = c.args.age in
    let n = c.args.number in
    let r = c.requires in
    let held : token age i.core ≡ Some r.has = ap (λ p. token age p.state) c.self.view_is ∙ r.held in
    left-room i.core (failed age n i.core) i.gone w.gone_room (failed-leaves age n i.core w.sound (may-settle i.core age n r.has held r.number))

pub invariant_of-self : goal.invariant_of-self
invariant_of-self g c =
    let i = c.self.inside in
    let w = c.self.invariant in
    let age = c.args.age in
    let n = c.args.number in
    let r = c.requires in
    let held : token age i.core ≡ Some r.has = ap (λ p. token age p.state) c.self.view_is ∙ r.held in
    let may = may-settle i.core age n r.has held r.number in
    let absent = held-absent age n r.has i.core i.shelf.kept w.sound w.stored held r.number in
    whole-went _ i.core c.failed.new.self (events.Failed age n) i.shelf i.shelf i.wakers c.call_at.new.self _ _ i.gone c.put_left.new.self w
    may c.failed.ensures (λ e. cc)
    (rw c.failed.ensures (holding-stored is_held_place n None i.core (failed age n i.core) i.shelf.kept w.stored (places-move i.core (events.Failed age n) w.sound may) (λ k o. o) absent))
    (omega arith)
    (c.call_at.ensures.ages ∙ ap (λ o. called_at o c.failed.new.self i.wakers.ages) c.oldest_waiting-oldest.ensures ∙ oldest-ages i.core c.failed.new.self (events.Failed age n) i.wakers.ages w.sound may c.failed.ensures (λ a k. k) (λ a. refl) w.called_once w.called)
    c.call_at.ensures.room c.note.ensures
    (left-fits c.numbered.result i.core c.failed.new.self i.gone c.put_left.new.self w.gone_room (rw c.failed.ensures (failed-leaves age n i.core w.sound may)) c.put_left.ensures.kept c.put_left.ensures.room)

pub returns-clause-called : goal.returns-clause-called
returns-clause-called g c =
    let i = c.self.inside in
    let w = c.self.invariant in
    let age = c.args.age in
    let n = c.args.number in
    let r = c.requires in
    let held : token age i.core ≡ Some r.has = ap (λ p. token age p.state) c.self.view_is ∙ r.held in
    rw (← c.self.view_is) (c.call_at.ensures.ages ∙ ap (λ o. called_at o c.failed.new.self i.wakers.ages) c.oldest_waiting-oldest.ensures ∙ oldest-ages i.core c.failed.new.self (events.Failed age n) i.wakers.ages w.sound (may-settle i.core age n r.has held r.number) c.failed.ensures (λ a k. k) (λ a. refl) w.called_once w.called)

pub returns-clause-holds : goal.returns-clause-holds
returns-clause-holds g c =
    let i = c.self.inside in
    let r = c.requires in
    let age = c.args.age in
    let held : token age i.core ≡ Some r.has = ap (λ p. token age p.state) c.self.view_is ∙ r.held in
    ap (token age) c.failed.ensures ∙ failed-own age c.args.number r.has i.core c.self.invariant.sound held r.number ∙ ap (λ p. failed_token age (token age p.state)) c.self.view_is
