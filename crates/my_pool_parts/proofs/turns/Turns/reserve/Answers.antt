use Rattle.std.proofs.Common.{◌++◌, [], ◌∷◌, deque_capacity, ap, ◌∙◌, arith, ◌≡◌, ◌*◌, max}
use Rattle.std.specs.Prelude.{is_ok, if◌then◌else◌}
use Rattle.my_pool_parts.specs.Row.{last_room}
use Rattle.my_pool_parts.proofs.Strung.{room-more, grows-to}
use Rattle.my_pool_parts.proofs.turns.Turns.reserve.Goals as goal

pub returns-clause-ok : goal.returns-clause-ok
returns-clause-ok c =
    let before = c.forget_empty.new.parts.items in
    let part = c.in_ok-part.part in
    let pushed = c.push.ensures.items ∙ ap (λ r. if is_ok r then before ++ part ∷ [] else before) c.unwrap.ensures in
    let room = ap (last_room deque_capacity) pushed ∙ room-more deque_capacity before part in
    let now = c.args.self.now.room in
    let exact : deque_capacity part ≡ max c.args.room (2 * now) = omega (arith, c.in_ok-part.ensures.exact, c.max.ensures, c.room-before.ensures.room) in
    grows-to now c.args.room (last_room deque_capacity c.push.new.self.items) (omega (arith, c.if-room-before.false, c.room-before.ensures.room)) (room ∙ exact)

pub returns-clause-small : goal.returns-clause-small
returns-clause-small c =
    let before = c.forget_empty.new.parts.items in
    let part = c.in_ok-part.part in
    let pushed = c.push.ensures.items ∙ ap (λ r. if is_ok r then before ++ part ∷ [] else before) c.unwrap.ensures in
    let room = ap (last_room deque_capacity) pushed ∙ room-more deque_capacity before part in
    omega (arith, room, part.small.0)
