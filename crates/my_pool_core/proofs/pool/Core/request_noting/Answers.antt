use Rattle.std.proofs.Common.{◌≡◌, ℕ, ◌≤◌, ◌<◌, ◌+◌, ◌*◌, ◌^◌, true, false, sym, ap, ◌∙◌, arith, length, max}
use Rattle.my_pool_core.specs.State.{State}
use Rattle.my_pool_parts.specs.Requests.{is_waiting, wake_all}
use Rattle.my_pool_parts.specs.Lists.{how_many}
use Rattle.my_pool_core.specs.Events.{is_at_end}
use Rattle.my_pool_core.specs.contracts.pool.Core.{the_view}
use Rattle.my_pool_parts.proofs.Queue.Waking.{wake-all-last}
use Rattle.my_pool_core.proofs.Keeping.{last-dialers, next-dialers, next-expected, kept-request, request-end, request-next, last-rises, next-rises, request-is}
use Rattle.my_pool_parts.proofs.Queue.Costs.{last-few, woken-last}
use Rattle.my_pool_core.proofs.pool.Core.request_noting.Goals as goal

-- the larger room fits
fits : (n spare more old new : ℕ) → n + spare ≤ old → old ≤ new → n + more ≤ new → n + max spare more ≤ new
fits n spare more old new a b c = omega arith

pub overflow_add-room : goal.overflow_add-room
overflow_add-room g c = omega (arith, c.len-room.ensures.small)

pub add_last-requires : goal.add_last-requires
add_last-requires g c = last-rises (the_view c.self.inside) c.self.invariant.sound (ap is_at_end c.self.view_is ∙ sym c.is_at_end-at_end.ensures ∙ c.if-at_end.true)

pub invariant_of-self-then-at_end : goal.invariant_of-self-then-at_end
invariant_of-self-then-at_end g c =
    let s : State = the_view c.self.inside in
    let n : c.len-room.result ≡ length s.requests = c.len-room.ensures.count in
    let e : is_at_end s ≡ true = ap is_at_end c.self.view_is ∙ sym c.is_at_end-at_end.ensures ∙ c.if-at_end.true in
    let items = c.wake_all.ensures.requests ∙ ap wake_all c.in_ok-add_last.ensures.ok ∙ wake-all-last s.requests in
    let spare = c.max-self-inside.ensures ∙ ap (λ k. max s.spare (k + 1)) n in
    kept-request s _ _ _ _ _ _ c.self.invariant (request-end s e) (cc (items, spare, ap (λ x. x.list) c.reserve.ensures.same, ap (λ x. x.next) c.reserve.ensures.same))
    (fits (length s.connections) s.spare (length s.requests + 1) _ _ c.self.invariant.reserved c.reserve.ensures.grows (omega (arith, n, c.in_ok-reserve.ensures.ok)))
    (omega (arith, last-dialers s.requests, c.self.invariant.expected, ap (λ x. x.coming) c.reserve.ensures.same))

pub returns-then-at_end-clause-ok : goal.returns-then-at_end-clause-ok
returns-then-at_end-clause-ok g c =
    let s : State = the_view c.self.inside in
    let n : c.len-room.result ≡ length s.requests = c.len-room.ensures.count in
    let e : is_at_end s ≡ true = ap is_at_end c.self.view_is ∙ sym c.is_at_end-at_end.ensures ∙ c.if-at_end.true in
    let items = c.wake_all.ensures.requests ∙ ap wake_all c.in_ok-add_last.ensures.ok ∙ wake-all-last s.requests in
    let spare = c.max-self-inside.ensures ∙ ap (λ k. max s.spare (k + 1)) n in
    request-is s _ _ _ (request-end s e) (cc (items, spare, ap (λ x. x.list) c.reserve.ensures.same, ap (λ x. x.next) c.reserve.ensures.same)) c.self.view_is

pub add-requires : goal.add-requires
add-requires g c = next-rises (the_view c.self.inside) c.self.invariant.sound (ap is_at_end c.self.view_is ∙ sym c.is_at_end-at_end.ensures ∙ c.if-at_end.false)

pub invariant_of-self-2 : goal.invariant_of-self-2
invariant_of-self-2 g c =
    let s : State = the_view c.self.inside in
    let n : c.len-room.result ≡ length s.requests = c.len-room.ensures.count in
    let e : is_at_end s ≡ false = ap is_at_end c.self.view_is ∙ sym c.is_at_end-at_end.ensures ∙ c.if-at_end.false in
    let spare = c.max-self-inside-2.ensures ∙ ap (λ k. max s.spare (k + 1)) n in
    kept-request s _ _ _ _ _ _ c.self.invariant (request-next s e) (cc (c.in_ok-add.ensures.ok, spare, ap (λ x. x.list) c.reserve.ensures.same, ap (λ x. x.next) c.reserve.ensures.same, ap (λ x. x.list) c.expect.ensures.same, ap (λ x. x.next) c.expect.ensures.same))
    (fits (length s.connections) s.spare (length s.requests + 1) _ _ c.self.invariant.reserved (omega (arith, c.reserve.ensures.grows, ap (λ x. x.room) c.expect.ensures.same)) (omega (arith, n, c.in_ok-reserve.ensures.ok, ap (λ x. x.room) c.expect.ensures.same)))
    (omega (arith, next-dialers s.next_age s.requests, c.in_ok-expect.ensures.ok, c.count_may_dial.ensures))

pub returns-then-at_end-clause-cost : goal.returns-then-at_end-clause-cost
returns-then-at_end-clause-cost g c = λ d lt.
    let s : State = the_view c.self.inside in
    let before : length s.requests < 2 ^ d = omega (arith, ap (λ t. length t.requests) c.self.view_is, lt) in
    let more : length c.add_last.new.self < 2 ^ (d + 1) = omega (arith, ap length c.in_ok-add_last.ensures.ok, last-few s.requests d before) in
    let woken = ap (λ rs. how_many is_waiting rs * (3 * (d + 1) + 2)) c.in_ok-add_last.ensures.ok ∙ woken-last s.requests d ∙ ap (λ t. how_many is_waiting t.requests * (3 * d + 5)) c.self.view_is in
    omega (arith, c.wake_all.ensures.cost (d + 1) more, woken)

pub expect-requires-clause-more : goal.expect-requires-clause-more
expect-requires-clause-more g c =
    let s : State = the_view c.self.inside in
    let e : is_at_end s ≡ false = ap is_at_end c.self.view_is ∙ sym c.is_at_end-at_end.ensures ∙ c.if-at_end.false in
    let n = next-expected s c.self.inside.connections.coming e c.self.invariant.expected in
    omega (arith, n.0, c.count_may_dial.ensures, ap (λ x. x.coming) c.reserve.ensures.same)

pub returns-clause-ok : goal.returns-clause-ok
returns-clause-ok g c =
    let s : State = the_view c.self.inside in
    let n : c.len-room.result ≡ length s.requests = c.len-room.ensures.count in
    let e : is_at_end s ≡ false = ap is_at_end c.self.view_is ∙ sym c.is_at_end-at_end.ensures ∙ c.if-at_end.false in
    let spare = c.max-self-inside-2.ensures ∙ ap (λ k. max s.spare (k + 1)) n in
    request-is s _ _ _ (request-next s e) (cc (c.in_ok-add.ensures.ok, spare, ap (λ x. x.list) c.reserve.ensures.same, ap (λ x. x.next) c.reserve.ensures.same, ap (λ x. x.list) c.expect.ensures.same, ap (λ x. x.next) c.expect.ensures.same)) c.self.view_is

pub returns-then-at_end-clause-none : goal.returns-then-at_end-clause-none
returns-then-at_end-clause-none g c = λ before_end.
    let e = ap is_at_end c.self.view_is ∙ sym c.is_at_end-at_end.ensures ∙ c.if-at_end.true in
    absurd (cc (before_end, e))
