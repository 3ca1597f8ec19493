use Rattle.std.proofs.Common.{◌≡◌, Some, sym, ap, ◌∙◌, refl, arith, subst}
use Rattle.my_pool_parts.specs.Connections.{is_cleaning_place}
use Rattle.my_pool_parts.specs.Lists.{found_is}
use Rattle.my_pool_core.specs.declared.event.PoolEvent.TheVariants as events
use Rattle.my_pool_core.specs.Owners.{place_at}
use Rattle.my_pool_core.proofs.Placed.Counts.{take-counts}
use Rattle.my_pool_store.specs.Shelves.{kept_at}
use Rattle.my_pool.specs.Fit.{IsStill}
use Rattle.my_pool.proofs.Deciding.{takes-one, takes-none, taken-kept, taken-stored, taken-cleaned}
use Rattle.my_pool.proofs.Waiting.{quiet-ages}
use Rattle.my_pool.proofs.Wholes.{whole-step}
use Rattle.my_pool.proofs.exchange.Exchange.take_returned.Goals as goal

pub unreachable-requires : goal.unreachable-requires
unreachable-requires g c =
    let i = c.self.inside in
    let w = c.self.invariant in
    let o = takes-one c.in-Some.number i.core w.sound _ c.take_returned-next.ensures.answer c.in-Some.is in
    let k = taken-kept c.in-Some.number i.core i.shelf.kept w.stored o in
    c.in_default.not-Some k.0 (c.take.ensures.found ∙ k.1)

pub invariant_of-self : goal.invariant_of-self
invariant_of-self g c =
    let i = c.self.inside in
    let w = c.self.invariant in
    let o = takes-one c.in-Some.number i.core w.sound _ c.take_returned-next.ensures.answer c.in-Some.is in
    let at = c.take_returned-next.ensures.state in
    whole-step _ i.core c.take_returned-next.new.self events.TakeReturned i.shelf c.take.new.self i.wakers i.wakers _ _ _ w
    refl at (λ e. cc)
    (rw (c.take.ensures.kept, at) (taken-stored c.in-Some.number i.core i.shelf.kept w.stored o))
    (omega (arith, c.take.ensures.room))
    (quiet-ages i.core c.take_returned-next.new.self events.TakeReturned i.wakers.ages w.sound refl at (λ a. refl) (λ a. refl) w.called)
    refl c.note.ensures

pub invariant_of-self-in-None : goal.invariant_of-self-in-None
invariant_of-self-in-None g c =
    let i = c.self.inside in
    let w = c.self.invariant in
    let at = c.take_returned-next.ensures.state in
    whole-step _ i.core c.take_returned-next.new.self events.TakeReturned i.shelf i.shelf i.wakers i.wakers _ _ _ w
    refl at (λ e. cc)
    (rw at (takes-none i.core i.shelf.kept w.sound w.stored _ c.take_returned-next.ensures.answer c.in-None.is))
    (omega arith)
    (quiet-ages i.core c.take_returned-next.new.self events.TakeReturned i.wakers.ages w.sound refl at (λ a. refl) (λ a. refl) w.called)
    refl c.note.ensures

pub returns-in-Some-take-clause-called : goal.returns-in-Some-take-clause-called
returns-in-Some-take-clause-called g c =
    let i = c.self.inside in
    let w = c.self.invariant in
    rw (← c.self.view_is) (quiet-ages i.core c.take_returned-next.new.self events.TakeReturned i.wakers.ages w.sound refl c.take_returned-next.ensures.state (λ a. refl) (λ a. refl) w.called)

pub returns-in-None-clause-called : goal.returns-in-None-clause-called
returns-in-None-clause-called g c =
    let i = c.self.inside in
    let w = c.self.invariant in
    rw (← c.self.view_is) (quiet-ages i.core c.take_returned-next.new.self events.TakeReturned i.wakers.ages w.sound refl c.take_returned-next.ensures.state (λ a. refl) (λ a. refl) w.called)

pub returns-in-Some-take-clause-handed : goal.returns-in-Some-take-clause-handed
returns-in-Some-take-clause-handed g c =
    let i = c.self.inside in
    let w = c.self.invariant in
    let n = c.in-Some.number in
    let o = takes-one n i.core w.sound _ c.take_returned-next.ensures.answer c.in-Some.is in
    let k = taken-kept n i.core i.shelf.kept w.stored o in
    let h = taken-cleaned n i.core i.shelf.kept w.stored o in
    let same : Some c.in-Some-take.conn ≡ Some k.0 = sym c.in-Some-take.is ∙ c.take.ensures.found ∙ k.1 in
    let conn : c.in-Some-take.conn ≡ k.0 = cc in (
      record {
        place = ap (λ s. found_is is_cleaning_place (place_at n s)) c.take_returned-next.ensures.state ∙ h.0;
        out = ap (kept_at n) c.take.ensures.kept ∙ h.1;
      },
      subst IsStill (sym conn) k.2,
    )

pub returns-in-Some-take-clause-fewer : goal.returns-in-Some-take-clause-fewer
returns-in-Some-take-clause-fewer g c =
    let i = c.self.inside in
    let less = take-counts i.core c.in-Some.number c.self.invariant.sound (sym c.take_returned-next.ensures.answer ∙ c.in-Some.is) in
    rw (← c.self.view_is, c.take_returned-next.ensures.state) (omega (arith, less))
