use Rattle.std.specs.Prelude.{is_some}
use Rattle.std.proofs.Common.{◌≡◌, true, None, sym, ap, ◌∙◌, refl}
use Rattle.my_pool_parts.specs.Lists.{found_is}
use Rattle.my_pool_parts.specs.Connections.{is_cleaning_place}
use Rattle.my_pool_core.specs.declared.event.PoolEvent.TheVariants as events
use Rattle.my_pool_core.specs.Events.{decide}
use Rattle.my_pool_core.specs.Owners.{place_at}
use Rattle.my_pool_core.specs.Wakes.{frees}
use Rattle.my_pool_core.proofs.Placed.Allowing.{may-decide}
use Rattle.my_pool_store.specs.Shelves.{kept_at, numbered, with_left}
use Rattle.my_pool_store.specs.Woken.{called_at}
use Rattle.my_pool_store.proofs.Leaving.{decide-leaves, leaving-stays}
use Rattle.my_pool.specs.Fit.{IsStill}
use Rattle.my_pool.specs.Pools.{tape_of}
use Rattle.my_pool.proofs.Burying.{verdict-fits, verdict-room}
use Rattle.my_pool.proofs.Deciding.{decide-stored}
use Rattle.my_pool.proofs.Waiting.{oldest-ages, at-most-oldest}
use Rattle.my_pool.proofs.Wholes.{in-hand-room, whole-went}
use Rattle.my_pool.proofs.exchange.Exchange.decide.Goals as goal

pub put_by-rest-requires : goal.put_by-rest-requires
put_by-rest-requires g c =
    let i = c.self.inside in
    let w = c.self.invariant in
    let n = c.out.inside.number in
    let at : found_is is_cleaning_place (place_at n i.core) ≡ true = ap (λ p. found_is is_cleaning_place (place_at n p.state)) c.self.view_is ∙ ap (λ e. found_is is_cleaning_place (place_at e.number c.args.self.now.state)) c.out.view_is ∙ c.requires.cleaned.place in
    let out : kept_at n i.shelf.kept ≡ None = ap (λ p. kept_at n p.kept) c.self.view_is ∙ ap (λ e. kept_at e.number c.args.self.now.kept) c.out.view_is ∙ c.requires.cleaned.out in
    in-hand-room is_cleaning_place n c.out.inside.conn i.core i.shelf w.shelf_room w.stored at out

pub bury-requires : goal.bury-requires
bury-requires g c = λ some.
    let i = c.self.inside in
    let w = c.self.invariant in
    let n = c.out.inside.number in
    let at : found_is is_cleaning_place (place_at n i.core) ≡ true = ap (λ p. found_is is_cleaning_place (place_at n p.state)) c.self.view_is ∙ ap (λ e. found_is is_cleaning_place (place_at e.number c.args.self.now.state)) c.out.view_is ∙ c.requires.cleaned.place in
    let may = may-decide i.core n at in
    let facts = c.facts_at-facts.result in
    let t = c.decide-verdict.new.self in
    let is = c.decide-verdict.ensures.state in
    verdict-room c.decide-verdict.result c.out.inside.conn i.core t i.gone w.gone_room
    (λ e. rw is (decide-leaves n facts c.args.now i.core may (sym c.decide-verdict.ensures.answer ∙ e)))
    (ap is_some (sym c.put_by-rest.ensures.rest) ∙ some)

pub invariant_of-self : goal.invariant_of-self
invariant_of-self g c =
    let i = c.self.inside in
    let w = c.self.invariant in
    let n = c.out.inside.number in
    let v = c.out.inside.conn in
    let at : found_is is_cleaning_place (place_at n i.core) ≡ true = ap (λ p. found_is is_cleaning_place (place_at n p.state)) c.self.view_is ∙ ap (λ e. found_is is_cleaning_place (place_at e.number c.args.self.now.state)) c.out.view_is ∙ c.requires.cleaned.place in
    let out : kept_at n i.shelf.kept ≡ None = ap (λ p. kept_at n p.kept) c.self.view_is ∙ ap (λ e. kept_at e.number c.args.self.now.kept) c.out.view_is ∙ c.requires.cleaned.out in
    let still : IsStill v = ap (λ e. e.conn.pending) c.out.view_is ∙ c.requires.still in
    let facts = c.facts_at-facts.result in
    let t = c.decide-verdict.new.self in
    let is = c.decide-verdict.ensures.state in
    let may = may-decide i.core n at in
    whole-went _ i.core t (events.Decide n facts c.args.now) i.shelf c.put_by-rest.new.self i.wakers c.call_at.new.self _ _ i.gone c.bury.new.gone w
    may is (λ e. cc)
    (rw (c.put_by-rest.ensures.kept, is, c.decide-verdict.ensures.answer, c.facts_at-facts.ensures) (decide-stored n v c.args.now i.core i.shelf.kept w.sound w.stored at out still))
    c.put_by-rest.ensures.room
    (c.call_at.ensures.ages ∙ ap (λ o. called_at o t i.wakers.ages) c.oldest_waiting-oldest.ensures ∙ oldest-ages i.core t (events.Decide n facts c.args.now) i.wakers.ages w.sound may is (at-most-oldest i.core (frees (decide n facts c.args.now i.core).answer)) (λ a. refl) w.called_once w.called)
    c.call_at.ensures.room c.note.ensures
    (verdict-fits c.decide-verdict.result n v i.core t i.gone c.bury.new.gone w.gone_room
    (λ e. rw is (decide-leaves n facts c.args.now i.core may (sym c.decide-verdict.ensures.answer ∙ e)))
    (rw is (leaving-stays i.core (events.Decide n facts c.args.now) w.sound may (λ e. cc)))
    (c.bury.ensures.kept ∙ ap (λ r. with_left (numbered n (tape_of r)) i.gone.kept) c.put_by-rest.ensures.rest)
    c.bury.ensures.room)

pub returns-clause-called : goal.returns-clause-called
returns-clause-called g c =
    let i = c.self.inside in
    let w = c.self.invariant in
    let n = c.out.inside.number in
    let at : found_is is_cleaning_place (place_at n i.core) ≡ true = ap (λ p. found_is is_cleaning_place (place_at n p.state)) c.self.view_is ∙ ap (λ e. found_is is_cleaning_place (place_at e.number c.args.self.now.state)) c.out.view_is ∙ c.requires.cleaned.place in
    let facts = c.facts_at-facts.result in
    let t = c.decide-verdict.new.self in
    rw (← c.self.view_is) (c.call_at.ensures.ages ∙ ap (λ o. called_at o t i.wakers.ages) c.oldest_waiting-oldest.ensures ∙ oldest-ages i.core t (events.Decide n facts c.args.now) i.wakers.ages w.sound (may-decide i.core n at) c.decide-verdict.ensures.state (at-most-oldest i.core (frees (decide n facts c.args.now i.core).answer)) (λ a. refl) w.called_once w.called)
