use Rattle.std.proofs.Common.{◌≡◌, sym, ◌∙◌, subst}
use Rattle.my_pool_parts.specs.declared.request.Standing.TheVariants.{Woken}
use Rattle.my_pool_parts.specs.Lists.{how_many}
use Rattle.my_pool_parts.specs.Requests.{is_waiting, standing_as, wake, set_standing}
use Rattle.my_pool_parts.specs.Live.{requests_of}
use Rattle.my_pool_parts.proofs.Queue.Waking.{oldest, wakes-oldest, wakes-none, count-waiting}
use Rattle.my_pool_parts.proofs.live.Live.wake.Goals as goal

pub returns-in-Some-clause-requests : goal.returns-in-Some-clause-requests
returns-in-Some-clause-requests g c =
    let o = oldest c.in-Some.ensures.0 c.in-Some.age c.self.invariant.live c.in-Some.ensures.1 in
    let same = subst (λ rs. wake rs ≡ set_standing c.in-Some.age Woken rs) c.self.view_is (wakes-oldest (standing_as Woken) 0 (requests_of c.self.inside.seats.entries) c.in-Some.age c.self.invariant.live.rising o) in
    c.set_standing.ensures.requests ∙ sym same

pub returns-in_default-clause-requests : goal.returns-in_default-clause-requests
returns-in_default-clause-requests g c =
    let rs = (requests_of c.self.inside.seats.entries) in
    let none : how_many is_waiting rs ≡ 0 = sym (count-waiting rs) ∙ sym c.self.invariant.live.queue.counted ∙ c.in_default.ensures in
    sym (subst (λ xs. wake xs ≡ xs) c.self.view_is (wakes-none (standing_as Woken) rs none))
