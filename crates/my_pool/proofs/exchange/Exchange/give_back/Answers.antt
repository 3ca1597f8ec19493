use Rattle.std.proofs.Common.{◌≡◌, true, ap, ◌∙◌, refl}
use Rattle.my_pool_parts.specs.Connections.{is_leased_place}
use Rattle.my_pool_core.specs.declared.event.PoolEvent.TheVariants as events
use Rattle.my_pool_core.specs.Owners.{is_lease}
use Rattle.my_pool_core.proofs.Placed.Allowing.{may-give-back}
use Rattle.my_pool.proofs.Wholes.{leased-absent, in-hand-room, give-back-stored, whole-step}
use Rattle.my_pool.proofs.Waiting.{quiet-ages}
use Rattle.my_pool.proofs.exchange.Exchange.give_back.Goals as goal

pub put-requires : goal.put-requires
put-requires g c =
    let i = c.self.inside in
    let w = c.self.invariant in
    let n = c.args.number in
    let leased : is_lease n i.core ≡ true = ap (λ p. is_lease n p.state) c.self.view_is ∙ c.requires.leased in
    in-hand-room is_leased_place n c.args.conn i.core i.shelf w.shelf_room w.stored leased (leased-absent n i.core i.shelf.kept w.stored leased)

pub invariant_of-self : goal.invariant_of-self
invariant_of-self g c =
    let i = c.self.inside in
    let w = c.self.invariant in
    let n = c.args.number in
    let leased : is_lease n i.core ≡ true = ap (λ p. is_lease n p.state) c.self.view_is ∙ c.requires.leased in
    let may = may-give-back i.core n leased in
    let at = give-back-stored n c.args.conn i.core i.shelf.kept w.sound w.stored leased c.requires.still in
    whole-step _ i.core c.give_back.new.self (events.GiveBack n) i.shelf c.put.new.self i.wakers i.wakers _ _ _ w
    may c.give_back.ensures (λ e. cc)
    (rw (c.give_back.ensures, c.put.ensures.kept) at) c.put.ensures.room
    (quiet-ages i.core c.give_back.new.self (events.GiveBack n) i.wakers.ages w.sound may c.give_back.ensures (λ a. refl) (λ a. refl) w.called)
    refl c.note.ensures

pub returns-clause-called : goal.returns-clause-called
returns-clause-called g c =
    let i = c.self.inside in
    let w = c.self.invariant in
    let n = c.args.number in
    let leased : is_lease n i.core ≡ true = ap (λ p. is_lease n p.state) c.self.view_is ∙ c.requires.leased in
    rw (← c.self.view_is) (quiet-ages i.core c.give_back.new.self (events.GiveBack n) i.wakers.ages w.sound (may-give-back i.core n leased) c.give_back.ensures (λ a. refl) (λ a. refl) w.called)
