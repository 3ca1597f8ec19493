use Rattle.std.proofs.Common.{◌≡◌, sym, ap, ◌∙◌}
use Rattle.my_pool_parts.specs.Lists.{how_many}
use Rattle.my_pool_parts.specs.Requests.{is_waiting, waits_up_to}
use Rattle.my_pool_parts.specs.Live.{requests_of}
use Rattle.my_pool_parts.proofs.Queue.Waking.{oldest, waits-oldest, waits-none, count-waiting}
use Rattle.my_pool_parts.proofs.live.Live.waits_up_to.Goals as goal

pub returns-in-Some-clause-answer : goal.returns-in-Some-clause-answer
returns-in-Some-clause-answer g c =
    let o = oldest c.in-Some.ensures.0 c.in-Some.least c.self.invariant.live c.in-Some.ensures.1 in
    waits-oldest c.args.age c.in-Some.least (requests_of c.self.inside.seats.entries) o ∙ ap (waits_up_to c.args.age) c.self.view_is

pub returns-in-None-clause-answer : goal.returns-in-None-clause-answer
returns-in-None-clause-answer g c =
    let rs = (requests_of c.self.inside.seats.entries) in
    let none : how_many is_waiting rs ≡ 0 = sym (count-waiting rs) ∙ sym c.self.invariant.live.queue.counted ∙ c.in-None.ensures in
    sym (sym (ap (waits_up_to c.args.age) c.self.view_is) ∙ waits-none c.args.age rs none)
