use Rattle.std.proofs.Common.{◌≡◌, ◌+◌, ◌≤◌, length, arith, ap, sym, ◌∙◌}
use Rattle.my_pool_core.specs.Events.{request, request_age}
use Rattle.my_pool_store.specs.Woken.{called_closed, waiting}
use Rattle.my_pool.specs.Asks.{room_wanted}
use Rattle.my_pool.proofs.Requesting.{request-holds, whole-request}
use Rattle.my_pool.proofs.Waiting.{request-ages}
use Rattle.my_pool.proofs.exchange.Exchange.request.Goals as goal

pub returns-clause-holds : goal.returns-clause-holds
returns-clause-holds g c =
    let i = c.self.inside in
    let s : c.request.new.self ≡ request i.core = c.in_ok-age.ensures.ok in
    let a : c.in_ok-age.age ≡ request_age i.core = c.in_ok-age.ensures.age in
    rw (s, a) (request-holds i.core c.self.invariant.sound)

pub invariant_of-self-2 : goal.invariant_of-self-2
invariant_of-self-2 g c =
    let i = c.self.inside in
    let w = c.self.invariant in
    let n : c.in-Some.count ≡ room_wanted i.core = c.in-Some.ensures in
    let shelf : c.in-Some.count ≤ c.make_room.new.self.room = c.in_ok-make_room.ensures.room in
    let wakers : c.in-Some.count ≤ c.make_room-2.new.self.room = c.in_ok-make_room-2.ensures.room in
    let t = c.request.new.self in
    let at : t ≡ request i.core = c.in_ok-age.ensures.ok in
    let ages : c.call_closed.new.self.ages ≡ waiting t c.make_room-2.new.self.ages = c.call_closed.ensures.ages ∙ ap (called_closed t) c.make_room-2.ensures.ages ∙ request-ages i.core t i.wakers.ages w.sound at w.called ∙ ap (waiting t) (sym c.make_room-2.ensures.ages) in
    let room : length c.make_more_room.new.self.kept + c.in-Some.count ≤ c.make_more_room.new.self.room = c.in_ok-make_more_room.ensures.room in
    let tapes : length c.make_more_room.new.self.kept + room_wanted i.core ≤ c.make_more_room.new.self.room = omega arith in
    whole-request _ i.core t i.shelf c.make_room.new.self i.wakers c.make_room-2.new.self c.call_closed.new.self _ _ i.gone c.make_more_room.new.self w
    at c.make_room.ensures.kept (omega arith) c.make_room-2.ensures.ages (omega arith)
    ages c.call_closed.ensures.room c.note.ensures tapes

pub returns-clause-called : goal.returns-clause-called
returns-clause-called g c =
    let i = c.self.inside in
    let w = c.self.invariant in
    let t = c.request.new.self in
    rw (← c.self.view_is) (c.call_closed.ensures.ages ∙ ap (called_closed t) c.make_room-2.ensures.ages ∙ request-ages i.core t i.wakers.ages w.sound c.in_ok-age.ensures.ok w.called)
