use Rattle.std.proofs.Common.{◌≡◌, Some, ap, ◌∙◌, arith, refl}
use Rattle.my_pool_parts.specs.Connections.{is_leased_place}
use Rattle.my_pool_parts.specs.Lists.{found_is}
use Rattle.my_pool_parts.specs.declared.connection.Place.TheVariants.{Leased}
use Rattle.my_pool_core.specs.declared.event.PoolEvent.TheVariants as events
use Rattle.my_pool_core.specs.Events.{ready}
use Rattle.my_pool_core.specs.Owners.{is_held_place, is_lease, token}
use Rattle.my_pool_core.proofs.Asked.Tokens.{may-settle}
use Rattle.my_pool_core.proofs.Placed.Moves.{places-move}
use Rattle.my_pool.proofs.Requesting.{held-absent, holding-stored}
use Rattle.my_pool.proofs.Waiting.{quiet-ages}
use Rattle.my_pool.proofs.Wholes.{whole-step}
use Rattle.my_pool.proofs.exchange.Exchange.ready.Goals as goal

pub invariant_of-self : goal.invariant_of-self
invariant_of-self g c =
    let i = c.self.inside in
    let w = c.self.invariant in
    let age = c.args.age in
    let n = c.args.number in
    let r = c.requires in
    let held : token age i.core ≡ Some r.has = ap (λ p. token age p.state) c.self.view_is ∙ r.held in
    let may = may-settle i.core age n r.has held r.number in
    let absent = held-absent age n r.has i.core i.shelf.kept w.sound w.stored held r.number in
    whole-step _ i.core c.ready.new.self (events.Ready age n) i.shelf i.shelf i.wakers i.wakers _ _ _ w
    may c.ready.ensures (λ e. cc)
    (rw c.ready.ensures (holding-stored is_held_place n (Some Leased) i.core (ready age n i.core) i.shelf.kept w.stored (places-move i.core (events.Ready age n) w.sound may) (λ k o. o) absent))
    (omega arith)
    (quiet-ages i.core c.ready.new.self (events.Ready age n) i.wakers.ages w.sound may c.ready.ensures (λ a. refl) (λ a. refl) w.called)
    refl c.note.ensures

pub returns-clause-called : goal.returns-clause-called
returns-clause-called g c =
    let i = c.self.inside in
    let w = c.self.invariant in
    let age = c.args.age in
    let n = c.args.number in
    let r = c.requires in
    let held : token age i.core ≡ Some r.has = ap (λ p. token age p.state) c.self.view_is ∙ r.held in
    rw (← c.self.view_is) (quiet-ages i.core c.ready.new.self (events.Ready age n) i.wakers.ages w.sound (may-settle i.core age n r.has held r.number) c.ready.ensures (λ a. refl) (λ a. refl) w.called)

pub returns-clause-leased : goal.returns-clause-leased
returns-clause-leased g c =
    let i = c.self.inside in
    let w = c.self.invariant in
    let age = c.args.age in
    let n = c.args.number in
    let r = c.requires in
    let held : token age i.core ≡ Some r.has = ap (λ p. token age p.state) c.self.view_is ∙ r.held in
    ap (is_lease n) c.ready.ensures ∙ ap (found_is is_leased_place) (places-move i.core (events.Ready age n) w.sound (may-settle i.core age n r.has held r.number)).there
