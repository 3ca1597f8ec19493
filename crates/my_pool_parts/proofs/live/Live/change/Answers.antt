use Rattle.std.proofs.Common.{ℕ, Some, None, cond, set, sym, ap, ◌∙◌}
use Rattle.std.specs.BTreeMap.{BTreeMap}
use Rattle.std.specs.Option.{option_map}
use Rattle.my_pool_parts.specs.declared.request.Request.{Request}
use Rattle.my_pool_parts.specs.declared.seat.Seat.{Seat}
use Rattle.my_pool_parts.specs.Live.{age_if, requests_of}
use Rattle.my_pool_parts.specs.Lists.{change_first}
use Rattle.my_pool_parts.specs.Requests.{has_age, changed, is_dialing, is_queued}
use Rattle.my_pool_parts.proofs.Finding.{change-none}
use Rattle.my_pool_parts.proofs.Queue.Lived.{held-few}
use Rattle.my_pool_parts.proofs.Seats.{found-in}
use Rattle.my_pool_parts.proofs.Seats.Kept.{found, found-counted, seated-changed, changed-list, seats-few}
use Rattle.my_pool_parts.proofs.live.Live.change.Goals as goal

pub returns-in_default-clause-requests : goal.returns-in_default-clause-requests
returns-in_default-clause-requests g c =
    let none = sym (found-in c.args.age c.self.inside.seats.entries c.self.invariant.keyed) ∙ ap (option_map (λ (s : Seat). s.request)) (sym c.in_default.ensures.value) in
    ap (λ (m : BTreeMap ℕ Seat). requests_of m.entries) c.get_mut.follows.holds-at-none ∙ c.self.view_is ∙ sym (sym (ap (change_first (has_age c.args.age) (changed c.args.waited c.args.standing)) c.self.view_is) ∙ change-none (has_age c.args.age) (changed c.args.waited c.args.standing) (requests_of c.self.inside.seats.entries) none ∙ c.self.view_is)

pub set_held-requires-clause-reserved : goal.set_held-requires-clause-reserved
set_held-requires-clause-reserved g c = ((found c.args.age c.in-Some.seat.now c.self.invariant (sym c.in-Some.ensures.value)).read c.in-Some.seat.now.request).reserved

pub set_held-requires-clause-alone : goal.set_held-requires-clause-alone
set_held-requires-clause-alone g c = λ s e.
    let f = found c.args.age c.in-Some.seat.now c.self.invariant (sym c.in-Some.ensures.value) in
    (f.read c.in-Some.seat.now.request).alone s (e ∙ ap Some (sym f.age_is))

pub set_held-requires-clause-same : goal.set_held-requires-clause-same
set_held-requires-clause-same g c = λ a e.
    let f = found c.args.age c.in-Some.seat.now c.self.invariant (sym c.in-Some.ensures.value) in
    (f.read c.in-Some.seat.now.request).same a e ∙ f.age_is

pub recount-self-inside-requires-clause-there : goal.recount-self-inside-requires-clause-there
recount-self-inside-requires-clause-there g c =
    let f = found c.args.age c.in-Some.seat.now c.self.invariant (sym c.in-Some.ensures.value) in
    found-counted is_dialing c.self.inside.dialing c.is_dialing.result f c.is_dialing.ensures c.self.invariant.live.dialing_counted

pub recount-self-inside-requires-clause-room : goal.recount-self-inside-requires-clause-room
recount-self-inside-requires-clause-room g c =
    seats-few is_dialing c.self.inside.dialing c.self.invariant c.self.invariant.live.dialing_counted

pub recount-self-inside-requires-2-clause-room : goal.recount-self-inside-requires-2-clause-room
recount-self-inside-requires-2-clause-room g c =
    seats-few is_queued c.self.inside.queued c.self.invariant c.self.invariant.live.queued_counted

pub recount-self-inside-requires-2-clause-there : goal.recount-self-inside-requires-2-clause-there
recount-self-inside-requires-2-clause-there g c =
    let f = found c.args.age c.in-Some.seat.now c.self.invariant (sym c.in-Some.ensures.value) in
    found-counted is_queued c.self.inside.queued c.is_queued.result f c.is_queued.ensures c.self.invariant.live.queued_counted

pub invariant_of-self-2 : goal.invariant_of-self-2
invariant_of-self-2 g c =
    let here = c.in-Some.seat.now in
    let f = found c.args.age here c.self.invariant (sym c.in-Some.ensures.value) in
    let next = c.changed-next.result in
    let own = ap (λ (r : Request). r.age) c.changed-next.ensures ∙ f.age_is in
    let held = c.set_held.ensures.ages ∙ ap (λ b. set c.self.inside.waiting here.slot (cond b (Some c.args.age) None)) c.is_waiting.ensures ∙ ap (λ n. set c.self.inside.waiting here.slot (age_if (record next { age = n }))) (sym own) in
    seated-changed next c.self.invariant f own (c.get_mut.follows.holds (record { request = next; slot = here.slot })).0 held
    (record { was = c.is_dialing.result; is = c.is_dialing-2.result; was_is = c.is_dialing.ensures; is_is = c.is_dialing-2.ensures; same = c.recount-self-inside.ensures })
    (record { was = c.is_queued.result; is = c.is_queued-2.result; was_is = c.is_queued.ensures; is_is = c.is_queued-2.ensures; same = c.recount-self-inside-2.ensures })

pub returns-clause-requests : goal.returns-clause-requests
returns-clause-requests g c =
    let f = found c.args.age c.in-Some.seat.now c.self.invariant (sym c.in-Some.ensures.value) in
    changed-list (changed c.args.waited c.args.standing) c.changed-next.result f (sym c.changed-next.ensures) (c.get_mut.follows.holds (record { request = c.changed-next.result; slot = c.in-Some.seat.now.slot })).0 ∙ ap (change_first (has_age c.args.age) (changed c.args.waited c.args.standing)) c.self.view_is

pub returns-clause-cost : goal.returns-clause-cost
returns-clause-cost g c = λ d lt. c.set_held.ensures.cost d (held-few d c.self.invariant.live c.self.view_is lt)
