use Rattle.std.proofs.Common.{◌≡◌, ◌^◌, deque_len, ◌<◌, ◌+◌, ◌-◌, ◌++◌, [], ◌∷◌, suc, cond, length, deque_items, deque_capacity, sym, ap, ◌∙◌, arith, rules}
use Rattle.std.specs.Prelude.{is_ok, if◌then◌else◌}
use Rattle.std.proofs.lemmas.List.{length_push}
use Rattle.my_pool_parts.specs.Row.{strung}
use Rattle.my_pool_parts.proofs.Strung.{strung-set, part-short, last-room, room-set, room-some}
use Rattle.my_pool_parts.proofs.turns.Turns.enter.Goals as goal

pub unwrap-requires : goal.unwrap-requires
unwrap-requires c =
    let parts = c.self.inside.parts.items in
    let k = c.len-last.result - 1 in
    let part = c.index_mut.result.now in
    let last : suc k ≡ length parts = omega (arith, c.len-last.ensures, c.self.inside.parts.ok.0, room-some deque_capacity parts (omega (arith, c.requires, ap (λ r. r.room) c.self.view_is))) in
    let few = part-short deque_items parts k part (omega (arith, last)) c.index_mut.ensures.value in
    c.push_back.ensures.succeeds (omega (arith, few, part.ok.0, last-room deque_capacity parts k part last c.index_mut.ensures.value, c.requires, ap (λ r. length r.items) c.self.view_is, ap (λ r. r.room) c.self.view_is))

pub overflow_add-self : goal.overflow_add-self
overflow_add-self c =
    let parts = c.self.inside.parts.items in
    let k = c.len-last.result - 1 in
    let part = c.index_mut.result.now in
    let last : suc k ≡ length parts = omega (arith, c.len-last.ensures, c.self.inside.parts.ok.0, room-some deque_capacity parts (omega (arith, c.requires, ap (λ r. r.room) c.self.view_is))) in
    let small : c.self.inside.len + 1 < 2 ^ 64 = omega (arith, part.small.0, last-room deque_capacity parts k part last c.index_mut.ensures.value, c.self.invariant, c.requires, ap (λ r. length r.items) c.self.view_is, ap (λ r. r.room) c.self.view_is) in
    search (rules, small)

pub invariant_of-self : goal.invariant_of-self
invariant_of-self c =
    let parts = c.self.inside.parts.items in
    let k = c.len-last.result - 1 in
    let part = c.index_mut.result.now in
    let last : suc k ≡ length parts = omega (arith, c.len-last.ensures, c.self.inside.parts.ok.0, room-some deque_capacity parts (omega (arith, c.requires, ap (λ r. r.room) c.self.view_is))) in
    let pushed = c.push_back.ensures.items ∙ ap (λ r. if is_ok r then part.items ++ c.args.number ∷ [] else part.items) c.unwrap.ensures in
    let all = strung-set deque_items parts k part c.push_back.new.self c.args.number last c.index_mut.ensures.value pushed in
    omega (arith, c.self.invariant, ap length all, length_push (strung deque_items parts) c.args.number)

pub returns-then-stands-clause-items : goal.returns-then-stands-clause-items
returns-then-stands-clause-items c =
    let parts = c.self.inside.parts.items in
    let k = c.len-last.result - 1 in
    let part = c.index_mut.result.now in
    let last : suc k ≡ length parts = omega (arith, c.len-last.ensures, c.self.inside.parts.ok.0, room-some deque_capacity parts (omega (arith, c.requires, ap (λ r. r.room) c.self.view_is))) in
    let pushed = c.push_back.ensures.items ∙ ap (λ r. if is_ok r then part.items ++ c.args.number ∷ [] else part.items) c.unwrap.ensures in
    strung-set deque_items parts k part c.push_back.new.self c.args.number last c.index_mut.ensures.value pushed
    ∙ ap (λ r. r.items ++ c.args.number ∷ []) c.self.view_is ∙ ap (λ b. c.args.self.now.items ++ cond b (c.args.number ∷ []) []) (sym c.if-stands.true)

pub returns-then-stands-clause-room : goal.returns-then-stands-clause-room
returns-then-stands-clause-room c =
    let parts = c.self.inside.parts.items in
    let k = c.len-last.result - 1 in
    let part = c.index_mut.result.now in
    let last : suc k ≡ length parts = omega (arith, c.len-last.ensures, c.self.inside.parts.ok.0, room-some deque_capacity parts (omega (arith, c.requires, ap (λ r. r.room) c.self.view_is))) in
    let few = part-short deque_items parts k part (omega (arith, last)) c.index_mut.ensures.value in
    let fits : deque_len part < deque_capacity part = omega (arith, few, part.ok.0, last-room deque_capacity parts k part last c.index_mut.ensures.value, c.requires, ap (λ r. length r.items) c.self.view_is, ap (λ r. r.room) c.self.view_is) in
    room-set deque_capacity parts k part c.push_back.new.self c.index_mut.ensures.value (c.push_back.ensures.in_place fits) ∙ ap (λ r. r.room) c.self.view_is
