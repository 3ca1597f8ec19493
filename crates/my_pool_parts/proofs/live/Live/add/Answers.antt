use Rattle.std.proofs.Common.{◌≡◌, ◌<◌, ◌-◌, ◌++◌, ◌∷◌, [], get_or, sym, ap, ◌∙◌, subst, arith, length}
use Rattle.std.specs.Ordering.{nat_cmp}
use Rattle.std.specs.BTreeMap.{insert_entry}
use Rattle.my_pool_parts.specs.declared.request.Request.{Request}
use Rattle.my_pool_parts.specs.Requests.{asking, IsRising}
use Rattle.my_pool_parts.specs.Live.{IsSeated}
use Rattle.my_pool_parts.proofs.Seats.Kept.{seat, seated-slots, with-last, seated-added, added-list}
use Rattle.my_pool_parts.proofs.live.Live.add.Goals as goal

pub invariant_of-self-in_err-insert : goal.invariant_of-self-in_err-insert
invariant_of-self-in_err-insert c =
    let h = seated-slots c.have_slot.new.free.room c.self.invariant (λ ages slots e. c.have_slot.ensures.queue ages slots (e ∙ sym c.len.ensures.len)) (omega (arith, c.have_slot.ensures.roomy, c.len.ensures.len)) c.have_slot.ensures.small in
    subst (λ es. IsSeated es c.have_slot.new.free.items c.have_slot.new.free.room c.have_slot.new.heap c.self.inside.dialing c.self.inside.queued) (sym c.in_err-insert.ensures.err) h

pub invariant_of-self-2 : goal.invariant_of-self-2
invariant_of-self-2 c =
    let free = c.have_slot.new.free in
    let h = seated-slots c.have_slot.new.free.room c.self.invariant (λ ages slots e. c.have_slot.ensures.queue ages slots (e ∙ sym c.len.ensures.len)) (omega (arith, c.have_slot.ensures.roomy, c.len.ensures.len)) c.have_slot.ensures.small in
    let some : 0 < length free.items = omega (arith, c.in_ok-have_slot.ensures.free) in
    let rising = subst (λ xs. IsRising 0 (xs ++ asking c.args.age ∷ [])) (sym c.self.view_is) c.requires in
    let slot = c.get-slot.result in
    let is : slot ≡ get_or free.items (length free.items - 1) slot = c.get-slot.ensures.element ∙ ap (λ n. get_or free.items (n - 1) slot) c.len-2.ensures.count in
    let last = with-last free.items slot some is ∙ ap (λ xs. xs ++ slot ∷ []) (sym c.drop_last.ensures.items) in
    let put = c.in_ok-insert.ensures.entries ∙ ap (λ (r : Request). insert_entry nat_cmp c.self.inside.seats.entries c.args.age (seat r slot)) c.asking-request.ensures in
    seated-added c.args.age slot _ h rising put last c.drop_last.ensures.room

pub returns-clause-ok : goal.returns-clause-ok
returns-clause-ok c =
    let rising = subst (λ xs. IsRising 0 (xs ++ asking c.args.age ∷ [])) (sym c.self.view_is) c.requires in
    let slot = c.get-slot.result in
    let put = c.in_ok-insert.ensures.entries ∙ ap (λ (r : Request). insert_entry nat_cmp c.self.inside.seats.entries c.args.age (seat r slot)) c.asking-request.ensures in
    added-list c.args.age slot c.self.invariant rising put ∙ ap (λ xs. xs ++ asking c.args.age ∷ []) c.self.view_is
