use Rattle.std.proofs.Common.{◌≡◌, ◌+◌, ◌-◌, ◌++◌, ◌∷◌, [], true, cond, sym, ap, ◌∙◌, arith, subst}
use Rattle.std.specs.List.{list_any}
use Rattle.my_pool_parts.specs.Connections.{has_number, is_idle, is_returned, is_leased, is_at_work, is_idle_place, is_returned_place, is_leased_place, is_working_place}
use Rattle.my_frame.specs.Lists.{without}
use Rattle.my_pool_parts.specs.Lists.{found_is}
use Rattle.my_pool_parts.proofs.Finding.{one, count-le-length}
use Rattle.my_pool_parts.specs.Stored.{numbers_at, IsStored}
use Rattle.my_pool_parts.proofs.Queues.{byte-one, queue-once, queue-room, leaves, one-counted, stored-moved, one-le}
use Rattle.my_pool_parts.proofs.connections.Connections.move_to.Goals as goal

pub leave-requires : goal.leave-requires
leave-requires c = queue-once is_idle c.args.number c.self.inside.arrivals.list c.self.inside.idle.items c.self.invariant.idle_are (c.self.invariant.once c.args.number)

pub leave-requires-2 : goal.leave-requires-2
leave-requires-2 c = queue-once is_returned c.args.number c.self.inside.arrivals.list c.self.inside.returned.items c.self.invariant.returned_are (c.self.invariant.once c.args.number)

pub enter-requires : goal.enter-requires
enter-requires c =
    let n = c.args.number in
    let cs = c.self.inside.arrivals.list in
    let inv = c.self.invariant in
    let idle = c.leave.ensures.items ∙ leaves is_idle_place n cs c.self.inside.idle.items c.is_at.result inv.idle_are (inv.once n) (c.is_at.ensures ∙ ap (found_is is_idle_place) c.place-old.ensures) in
    omega (arith, c.leave.ensures.room, inv.idle_fit, queue-room is_idle n cs c.leave.new.self.items c.self.inside.room (subst (λ s. list_any (has_number c.args.number) s.list ≡ true) (sym c.self.view_is) c.requires) idle inv.few)

pub enter-requires-2 : goal.enter-requires-2
enter-requires-2 c =
    let n = c.args.number in
    let cs = c.self.inside.arrivals.list in
    let inv = c.self.invariant in
    let returned = c.leave-2.ensures.items ∙ leaves is_returned_place n cs c.self.inside.returned.items c.is_at-2.result inv.returned_are (inv.once n) (c.is_at-2.ensures ∙ ap (found_is is_returned_place) c.place-old.ensures) in
    omega (arith, c.leave-2.ensures.room, inv.returned_fit, queue-room is_returned n cs c.leave-2.new.self.items c.self.inside.room (subst (λ s. list_any (has_number c.args.number) s.list ≡ true) (sym c.self.view_is) c.requires) returned inv.few)

pub overflow_sub-self : goal.overflow_sub-self
overflow_sub-self c =
    let was = c.is_at-5.ensures ∙ ap (found_is is_leased_place) c.place-old.ensures in
    omega (arith, c.from.ensures ∙ byte-one c.is_at-5.result, one-counted is_leased_place c.args.number c.self.inside.arrivals.list c.self.inside.leased c.is_at-5.result c.self.invariant.leased_are was)

pub overflow_add-self : goal.overflow_add-self
overflow_add-self c =
    let inv = c.self.invariant in
    omega (arith, inv.small, inv.few, inv.leased_are, count-le-length is_leased c.self.inside.arrivals.list, c.from-2.ensures ∙ byte-one c.is_at-6.result, one-le c.is_at-6.result)

pub overflow_sub-self-2 : goal.overflow_sub-self-2
overflow_sub-self-2 c =
    let was = c.is_at_work.ensures ∙ ap (found_is is_working_place) c.place-old.ensures in
    omega (arith, c.from-3.ensures ∙ byte-one c.is_at_work.result, one-counted is_working_place c.args.number c.self.inside.arrivals.list c.self.inside.working c.is_at_work.result c.self.invariant.working_are was)

pub overflow_add-self-2 : goal.overflow_add-self-2
overflow_add-self-2 c =
    let inv = c.self.invariant in
    omega (arith, inv.small, inv.few, inv.working_are, count-le-length is_at_work c.self.inside.arrivals.list, c.from-4.ensures ∙ byte-one c.is_at_work-2.result, one-le c.is_at_work-2.result)

pub invariant_of-self : goal.invariant_of-self
invariant_of-self c =
    let n = c.args.number in
    let cs = c.self.inside.arrivals.list in
    let inv = c.self.invariant in
    let was = c.is_at-5.ensures ∙ ap (found_is is_leased_place) c.place-old.ensures in
    let worked = c.is_at_work.ensures ∙ ap (found_is is_working_place) c.place-old.ensures in
    let fewer = one-counted is_leased_place n cs c.self.inside.leased c.is_at-5.result inv.leased_are was in
    let fewer2 = one-counted is_working_place n cs c.self.inside.working c.is_at_work.result inv.working_are worked in
    let left = leaves is_idle_place n cs c.self.inside.idle.items c.is_at.result inv.idle_are (inv.once n) (c.is_at.ensures ∙ ap (found_is is_idle_place) c.place-old.ensures) in
    let left2 = leaves is_returned_place n cs c.self.inside.returned.items c.is_at-2.result inv.returned_are (inv.once n) (c.is_at-2.ensures ∙ ap (found_is is_returned_place) c.place-old.ensures) in
    let idle = c.enter.ensures.items ∙ ap (λ q. q ++ cond c.is_at-3.result (n ∷ []) []) (c.leave.ensures.items ∙ left) ∙ ap (λ b. numbers_at is_idle (without (has_number n) cs) ++ cond b (n ∷ []) []) c.is_at-3.ensures in
    let returned = c.enter-2.ensures.items ∙ ap (λ q. q ++ cond c.is_at-4.result (n ∷ []) []) (c.leave-2.ensures.items ∙ left2) ∙ ap (λ b. numbers_at is_returned (without (has_number n) cs) ++ cond b (n ∷ []) []) c.is_at-4.ensures in
    subst (λ xs. IsStored xs c.enter.new.self.items c.enter-2.new.self.items c.self.inside.count (c.self.inside.leased - c.from.result + c.from-2.result) (c.self.inside.working - c.from-3.result + c.from-4.result) c.self.inside.room c.enter.new.self.room c.enter-2.new.self.room)
    (sym (ap (λ a. a.list) c.move_to.ensures))
    (stored-moved n c.args.place cs _ _ _ _ _ _ _ _ _ _ _ _ _ _ c.is_at-5.result c.is_at_work.result inv (subst (λ s. list_any (has_number c.args.number) s.list ≡ true) (sym c.self.view_is) c.requires) was (omega (arith, c.from.ensures ∙ byte-one c.is_at-5.result, c.from-2.ensures ∙ byte-one c.is_at-6.result, ap one c.is_at-6.ensures, fewer)) worked (omega (arith, c.from-3.ensures ∙ byte-one c.is_at_work.result, c.from-4.ensures ∙ byte-one c.is_at_work-2.result, ap one c.is_at_work-2.ensures, fewer2)) idle returned (c.enter.ensures.room ∙ c.leave.ensures.room) (c.enter-2.ensures.room ∙ c.leave-2.ensures.room))
