use Rattle.std.proofs.Common.{◌≡◌, Some, false, cond, refl, sym, ap, ◌∙◌, arith}
use Rattle.std.specs.Prelude.{◌==◌}
use Rattle.std.specs.Option.{option_map}
use Rattle.std.proofs.lemmas.Bool.{ne_eqb}
use Rattle.my_pool_parts.specs.declared.seat.Seat.{Seat}
use Rattle.my_pool_parts.specs.Live.{requests_of}
use Rattle.my_frame.specs.Lists.{without}
use Rattle.my_pool_parts.specs.Requests.{has_age, last_age, is_dialing, is_queued}
use Rattle.my_frame.proofs.Finding.{without-unfound}
use Rattle.my_pool_parts.proofs.Queue.Lived.{held-few}
use Rattle.my_pool_parts.proofs.Seats.{found-in}
use Rattle.my_pool_parts.proofs.Seats.Kept.{found, found-counted, seated-ended, ended-list, seats-few}
use Rattle.my_pool_parts.proofs.live.Live.end.Goals as goal

pub returns-in_default-clause-requests : goal.returns-in_default-clause-requests
returns-in_default-clause-requests g c =
    let rs = c.args.self.now in
    let es = c.self.inside.seats.entries in
    let other : (c.args.age == last_age) ≡ false = ne_eqb c.args.age last_age c.if-age.false in
    let none = sym (found-in c.args.age es c.self.invariant.keyed) ∙ ap (option_map (λ (s : Seat). s.request)) (sym c.in_default.ensures.value) in
    ap requests_of c.in_default.ensures.unchanged ∙ sym (without-unfound (has_age c.args.age) (requests_of es) none) ∙ ap (without (has_age c.args.age)) c.self.view_is ∙ sym (ap (λ b. cond b rs (without (has_age c.args.age) rs)) other)

pub set_held-requires-clause-reserved : goal.set_held-requires-clause-reserved
set_held-requires-clause-reserved g c = ((found c.args.age c.in-Some.seat c.self.invariant (sym c.in-Some.ensures.value)).read c.in-Some.seat.request).reserved

pub set_held-requires-clause-alone : goal.set_held-requires-clause-alone
set_held-requires-clause-alone g c = λ s e.
    let f = found c.args.age c.in-Some.seat c.self.invariant (sym c.in-Some.ensures.value) in
    (f.read c.in-Some.seat.request).alone s (e ∙ ap Some (sym f.age_is))

pub set_held-requires-clause-same : goal.set_held-requires-clause-same
set_held-requires-clause-same g c = λ a e.
    let f = found c.args.age c.in-Some.seat c.self.invariant (sym c.in-Some.ensures.value) in
    (f.read c.in-Some.seat.request).same a e ∙ f.age_is

pub recount-self-inside-requires-clause-there : goal.recount-self-inside-requires-clause-there
recount-self-inside-requires-clause-there g c =
    let f = found c.args.age c.in-Some.seat c.self.invariant (sym c.in-Some.ensures.value) in
    found-counted is_dialing c.self.inside.dialing c.is_dialing.result f c.is_dialing.ensures c.self.invariant.live.dialing_counted

pub recount-self-inside-requires-clause-room : goal.recount-self-inside-requires-clause-room
recount-self-inside-requires-clause-room g c =
    seats-few is_dialing c.self.inside.dialing c.self.invariant c.self.invariant.live.dialing_counted

pub recount-self-inside-requires-2-clause-there : goal.recount-self-inside-requires-2-clause-there
recount-self-inside-requires-2-clause-there g c =
    let f = found c.args.age c.in-Some.seat c.self.invariant (sym c.in-Some.ensures.value) in
    found-counted is_queued c.self.inside.queued c.is_queued.result f c.is_queued.ensures c.self.invariant.live.queued_counted

pub recount-self-inside-requires-2-clause-room : goal.recount-self-inside-requires-2-clause-room
recount-self-inside-requires-2-clause-room g c =
    seats-few is_queued c.self.inside.queued c.self.invariant c.self.invariant.live.queued_counted

pub invariant_of-self-2 : goal.invariant_of-self-2
invariant_of-self-2 g c =
    let here = c.in-Some.seat in
    let free = c.self.inside.free.items in
    let f = found c.args.age here c.self.invariant (sym c.in-Some.ensures.value) in
    seated-ended _ c.self.invariant f c.remove.ensures.entries c.push.ensures.items c.push.ensures.room c.set_held.ensures.ages
    (record { was = c.is_dialing.result; is = false; was_is = c.is_dialing.ensures; is_is = refl; same = c.recount-self-inside.ensures })
    (record { was = c.is_queued.result; is = false; was_is = c.is_queued.ensures; is_is = refl; same = c.recount-self-inside-2.ensures })

pub returns-clause-requests : goal.returns-clause-requests
returns-clause-requests g c =
    let rs = c.args.self.now in
    let f = found c.args.age c.in-Some.seat c.self.invariant (sym c.in-Some.ensures.value) in
    let other : (c.args.age == last_age) ≡ false = ne_eqb c.args.age last_age c.if-age.false in
    ended-list f c.remove.ensures.entries ∙ ap (without (has_age c.args.age)) c.self.view_is ∙ sym (ap (λ b. cond b rs (without (has_age c.args.age) rs)) other)

pub returns-clause-cost : goal.returns-clause-cost
returns-clause-cost g c = λ d lt. omega (arith, c.set_held.ensures.cost d (held-few d c.self.invariant.live c.self.view_is lt))
