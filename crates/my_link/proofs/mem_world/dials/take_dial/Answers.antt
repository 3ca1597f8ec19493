use Rattle.std.proofs.Common.{rules, ◌≡◌, ◌<◌, ◌∷◌, length, get_or, remove, refl, sym, ap, ◌∙◌}
use Rattle.my_link.specs.declared.dialer.DialItem.{DialItem}
use Rattle.my_link.specs.declared.mem_world.dials.PlannedDial.{PlannedDial}
use Rattle.my_link.specs.MemDials.{dials_at, dial_place}
use Rattle.my_link.proofs.Dialing.{no_dials_at, first_dial_at, other_dials_at}
use Rattle.my_link.proofs.mem_world.dials.take_dial.Goals as goal

pub returns-then-place-len-clause-first : goal.returns-then-place-len-clause-first
returns-then-place-len-clause-first c = (no_dials_at c.args.number c.args.dials.now.items (search rules), refl)

pub returns-clause-first : goal.returns-clause-first
returns-clause-first c =
    let within : dial_place c.args.number c.args.dials.now.items < length c.args.dials.now.items = search rules in
    let place : c.place_of-place.result ≡ dial_place c.args.number c.args.dials.now.items = search rules in
    let left : dials_at c.args.number c.remove-planned.new.self.items ≡ dials_at c.args.number (remove c.args.dials.now.items (dial_place c.args.number c.args.dials.now.items)) = ap (dials_at c.args.number) (c.remove-planned.ensures.items ∙ ap (remove c.args.dials.now.items) place) in
    let took : (get_or c.args.dials.now.items (dial_place c.args.number c.args.dials.now.items) c.remove-planned.result).item ≡ c.remove-planned.result.item = sym (ap (λ (d : PlannedDial). d.item) (c.remove-planned.ensures.value ∙ ap (λ k. get_or c.args.dials.now.items k c.remove-planned.result) place)) in
    first_dial_at c.args.number c.args.dials.now.items c.remove-planned.result within ∙ ap (λ (i : DialItem). i ∷ dials_at c.args.number (remove c.args.dials.now.items (dial_place c.args.number c.args.dials.now.items))) took ∙ ap (λ is. c.remove-planned.result.item ∷ is) (sym left)

pub returns-clause-others : goal.returns-clause-others
returns-clause-others c =
    let within : dial_place c.args.number c.args.dials.now.items < length c.args.dials.now.items = search rules in
    λ n apart. ap (dials_at n) (search rules) ∙ other_dials_at c.args.number n c.args.dials.now.items apart within
