use Rattle.std.proofs.Common.{◌≡◌, true, false, ap, ◌∙◌, refl, arith}
use Rattle.std.specs.Prelude.{find, ◌==◌}
use Rattle.my_pool_parts.specs.Lists.{found_is}
use Rattle.my_pool_parts.specs.Requests.{has_age}
use Rattle.my_pool_parts.proofs.Finding.{count-without-le}
use Rattle.my_pool_core.specs.declared.event.PoolEvent.TheVariants as events
use Rattle.my_pool_core.specs.Events.{may_cancel}
use Rattle.my_pool_core.specs.Wakes.{hands_on, oldest_waiting}
use Rattle.my_pool_store.specs.Woken.{called_at}
use Rattle.my_pool_store.proofs.Calling.{kept-waits, kept-once, left-of}
use Rattle.my_pool.proofs.Burying.{cancel-fits, cancel-room}
use Rattle.my_pool.proofs.Requesting.{cancel-stored, live-holds}
use Rattle.my_pool.proofs.Waiting.{at-most-oldest, own-oldest}
use Rattle.my_pool.proofs.Wholes.{still-fits, whole-event}
use Rattle.my_pool.proofs.exchange.Exchange.cancel.Goals as goal

pub put_left-requires : goal.put_left-requires
put_left-requires g c = λ some.
    let i = c.self.inside in
    let w = c.self.invariant in
    let age = c.args.age in
    let may : may_cancel age i.core ≡ true = ap (λ p. may_cancel age p.state) c.self.view_is ∙ c.requires.live in
    cancel-room age c.args.left c.args.self.now i.core i.gone (ap (λ p. p.state) c.self.view_is) w.sound may c.requires.holds w.gone_room some

pub returns-clause-called : goal.returns-clause-called
returns-clause-called g c =
    let i = c.self.inside in
    let w = c.self.invariant in
    let age = c.args.age in
    let may : may_cancel age i.core ≡ true = ap (λ p. may_cancel age p.state) c.self.view_is ∙ c.requires.live in
    let on = at-most-oldest i.core (found_is (λ r. hands_on r.standing) (find (has_age age) i.core.requests)) in
    rw (← c.self.view_is) (c.call_at.ensures.ages ∙ ap (λ o. called_at o c.cancel.new.self c.forget.new.self.ages) c.oldest_waiting-oldest.ensures ∙ ap (called_at (oldest_waiting i.core) c.cancel.new.self) c.forget.ensures.ages ∙ own-oldest i.core c.cancel.new.self (events.Cancel age) age i.wakers.ages w.sound may c.cancel.ensures on (λ a. refl) w.called_once
    (λ a. omega (arith, w.called_once a, count-without-le (λ b. b == a) (λ b. b == age) i.wakers.ages)) w.called)

pub invariant_of-self : goal.invariant_of-self
invariant_of-self g c =
    let i = c.self.inside in
    let w = c.self.invariant in
    let age = c.args.age in
    let t = c.cancel.new.self in
    let may : may_cancel age i.core ≡ true = ap (λ p. may_cancel age p.state) c.self.view_is ∙ c.requires.live in
    let held = live-holds age i.core may in
    let on = at-most-oldest i.core (found_is (λ r. hands_on r.standing) (find (has_age age) i.core.requests)) in
    let left : c.call_at.new.self.ages ≡ left-of age t i.wakers.ages = c.call_at.ensures.ages ∙ ap (λ o. called_at o t c.forget.new.self.ages) c.oldest_waiting-oldest.ensures ∙ ap (called_at (oldest_waiting i.core) t) c.forget.ensures.ages ∙ own-oldest i.core t (events.Cancel age) age i.wakers.ages w.sound may c.cancel.ensures on (λ a. refl) w.called_once
    (λ a. omega (arith, w.called_once a, count-without-le (λ b. b == a) (λ b. b == age) i.wakers.ages)) w.called in
    whole-event _ i.core t (events.Cancel age) i.shelf i.shelf i.wakers c.call_at.new.self _ _ i.gone c.put_left.new.self w
    may c.cancel.ensures (λ e. cc)
    (rw c.cancel.ensures (cancel-stored age held.0 i.core i.shelf.kept w.sound w.stored held.1))
    (omega arith)
    (rw left (kept-waits age false t i.wakers.ages (λ e. absurd (cc))))
    (λ b. rw left (kept-once age b false t i.wakers.ages w.called_once))
    (omega (arith, c.call_at.ensures.room, c.forget.ensures.room)) c.note.ensures
    (cancel-fits age c.args.left c.args.self.now i.core t i.gone c.put_left.new.self (ap (λ p. p.state) c.self.view_is) w.sound may c.requires.holds c.cancel.ensures w.gone_room
    (still-fits _ i.core t (events.Cancel age) i.shelf i.wakers _ i.gone w may c.cancel.ensures (λ e. cc))
    c.put_left.ensures.kept c.put_left.ensures.room)
