use Rattle.std.proofs.Common.{◌≡◌, ◌-◌, Some, length, option_copied, deque_capacity, sym, ap, ◌∙◌}
use Rattle.std.specs.Prelude.{slice_get}
use Rattle.my_pool_parts.proofs.Strung.{room-read}
use Rattle.my_pool_parts.proofs.turns.Turns.room.Goals as goal

pub returns-in-Some-clause-room : goal.returns-in-Some-clause-room
returns-in-Some-clause-room c =
    let parts = c.self.inside.parts.items in
    let there : slice_get parts (length parts - 1) ≡ Some c.in-Some.part.now =
    ap (λ ps. slice_get ps (length ps - 1)) (sym c.deref.ensures.value) ∙ sym c.last.ensures.value ∙ ap option_copied c.in-Some.is in
    c.capacity.ensures ∙ sym (room-read deque_capacity parts c.in-Some.part.now there) ∙ ap (λ r. r.room) c.self.view_is
