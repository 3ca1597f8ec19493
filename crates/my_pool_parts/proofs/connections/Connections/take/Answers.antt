use Rattle.std.proofs.Common.{◌≡◌, ◌-◌, true, sym, ap, ◌∙◌, arith, subst}
use Rattle.std.specs.List.{list_any}
use Rattle.my_pool_parts.specs.Connections.{has_number, is_idle, is_returned, is_idle_place, is_returned_place, is_leased_place, is_working_place}
use Rattle.my_pool_parts.specs.Lists.{found_is}
use Rattle.my_pool_parts.specs.Stored.{IsStored}
use Rattle.my_pool_parts.proofs.Queues.{byte-one, queue-once, leaves, one-counted, stored-left}
use Rattle.my_pool_parts.proofs.connections.Connections.take.Goals as goal

pub leave-requires : goal.leave-requires
leave-requires c = queue-once is_idle c.args.number c.self.inside.arrivals.list c.self.inside.idle.items c.self.invariant.idle_are (c.self.invariant.once c.args.number)

pub leave-requires-2 : goal.leave-requires-2
leave-requires-2 c = queue-once is_returned c.args.number c.self.inside.arrivals.list c.self.inside.returned.items c.self.invariant.returned_are (c.self.invariant.once c.args.number)

pub overflow_sub-self : goal.overflow_sub-self
overflow_sub-self c =
    let was = c.is_at-3.ensures ∙ ap (found_is is_leased_place) c.place-old.ensures in
    omega (arith, c.from.ensures ∙ byte-one c.is_at-3.result, one-counted is_leased_place c.args.number c.self.inside.arrivals.list c.self.inside.leased c.is_at-3.result c.self.invariant.leased_are was)

pub overflow_sub-self-2 : goal.overflow_sub-self-2
overflow_sub-self-2 c =
    let was = c.is_at_work.ensures ∙ ap (found_is is_working_place) c.place-old.ensures in
    omega (arith, c.from-2.ensures ∙ byte-one c.is_at_work.result, one-counted is_working_place c.args.number c.self.inside.arrivals.list c.self.inside.working c.is_at_work.result c.self.invariant.working_are was)

pub invariant_of-self : goal.invariant_of-self
invariant_of-self c =
    let n = c.args.number in
    let cs = c.self.inside.arrivals.list in
    let inv = c.self.invariant in
    let was = c.is_at-3.ensures ∙ ap (found_is is_leased_place) c.place-old.ensures in
    let worked = c.is_at_work.ensures ∙ ap (found_is is_working_place) c.place-old.ensures in
    let fewer = one-counted is_leased_place n cs c.self.inside.leased c.is_at-3.result inv.leased_are was in
    let fewer2 = one-counted is_working_place n cs c.self.inside.working c.is_at_work.result inv.working_are worked in
    let idle = c.leave.ensures.items ∙ leaves is_idle_place n cs c.self.inside.idle.items c.is_at.result inv.idle_are (inv.once n) (c.is_at.ensures ∙ ap (found_is is_idle_place) c.place-old.ensures) in
    let returned = c.leave-2.ensures.items ∙ leaves is_returned_place n cs c.self.inside.returned.items c.is_at-2.result inv.returned_are (inv.once n) (c.is_at-2.ensures ∙ ap (found_is is_returned_place) c.place-old.ensures) in
    subst (λ xs. IsStored xs c.leave.new.self.items c.leave-2.new.self.items (c.self.inside.count - 1) (c.self.inside.leased - c.from.result) (c.self.inside.working - c.from-2.result) c.self.inside.room c.leave.new.self.room c.leave-2.new.self.room)
    (sym (ap (λ a. a.list) c.take_out.ensures))
    (stored-left n cs _ _ _ _ _ _ _ _ _ _ _ _ _ _ c.is_at-3.result c.is_at_work.result inv (subst (λ s. list_any (has_number c.args.number) s.list ≡ true) (sym c.self.view_is) c.requires) was (omega (arith, c.from.ensures ∙ byte-one c.is_at-3.result, fewer)) worked (omega (arith, c.from-2.ensures ∙ byte-one c.is_at_work.result, fewer2)) idle returned c.leave.ensures.room c.leave-2.ensures.room)
