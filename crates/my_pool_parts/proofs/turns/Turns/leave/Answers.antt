use Rattle.std.proofs.Common.{◌≡◌, ◌≤◌, cond, length, deque_items, deque_capacity, sym, ap, ◌∙◌, arith, ℕ, List, false, true, subst}
use Rattle.std.specs.Prelude.{◌==◌}
use Rattle.std.specs.List.{list_any}
use Rattle.my_frame.specs.Lists.{without}
use Rattle.my_pool_parts.specs.Lists.{how_many}
use Rattle.my_pool_parts.specs.Row.{strung, stands_in}
use Rattle.my_pool_parts.proofs.Finding.{shorter-where-any, without-none}
use Rattle.my_pool_parts.proofs.Strung.{stands-there, stands-once, stands-counted, strung-without, room-set}
use Rattle.my_pool_parts.proofs.turns.Turns.leave.Goals as goal

found : {P : Type 0} (items : P → List ℕ) {seen parts : List P} (n k : ℕ) → seen ≡ parts → stands_in items n seen k ≡ true → stands_in items n parts k ≡ true
found {P} items n k same h = subst (λ ps. stands_in items n ps k ≡ true) same h

pub index_mut-requires : goal.index_mut-requires
index_mut-requires c = omega (arith, stands-there deque_items c.args.number c.self.inside.parts.items c.in-Some.at (found deque_items c.args.number c.in-Some.at c.deref.ensures.value c.in-Some.ensures.found), c.self.inside.parts.ok.0)

pub leave_part-requires : goal.leave_part-requires
leave_part-requires c =
    let parts = c.self.inside.parts.items in
    let n = c.args.number in
    let once : how_many (λ m. m == n) (strung deque_items parts) ≤ 1 = omega (arith, c.requires, ap (λ r. how_many (λ m. m == n) r.items) c.self.view_is) in
    omega (arith, stands-once deque_items n parts c.in-Some.at c.index_mut.result.now c.index_mut.ensures.value (found deque_items c.args.number c.in-Some.at c.deref.ensures.value c.in-Some.ensures.found), once)

pub overflow_sub-self : goal.overflow_sub-self
overflow_sub-self c =
    let parts = c.self.inside.parts.items in
    let n = c.args.number in
    omega (arith, c.self.invariant, shorter-where-any (λ m. m == n) (strung deque_items parts) (stands-counted deque_items n parts c.in-Some.at (found deque_items c.args.number c.in-Some.at c.deref.ensures.value c.in-Some.ensures.found)))

pub invariant_of-self : goal.invariant_of-self
invariant_of-self c =
    let parts = c.self.inside.parts.items in
    let n = c.args.number in
    let once : how_many (λ m. m == n) (strung deque_items parts) ≤ 1 = omega (arith, c.requires, ap (λ r. how_many (λ m. m == n) r.items) c.self.view_is) in
    let left = strung-without deque_items n parts c.in-Some.at c.index_mut.result.now c.leave_part.new.part c.index_mut.ensures.value (found deque_items c.args.number c.in-Some.at c.deref.ensures.value c.in-Some.ensures.found) once c.leave_part.ensures.items in
    omega (arith, c.self.invariant, ap length left, shorter-where-any (λ m. m == n) (strung deque_items parts) (stands-counted deque_items n parts c.in-Some.at (found deque_items c.args.number c.in-Some.at c.deref.ensures.value c.in-Some.ensures.found)))

pub returns-clause-items : goal.returns-clause-items
returns-clause-items c =
    let parts = c.self.inside.parts.items in
    let n = c.args.number in
    let once : how_many (λ m. m == n) (strung deque_items parts) ≤ 1 = omega (arith, c.requires, ap (λ r. how_many (λ m. m == n) r.items) c.self.view_is) in
    let left = strung-without deque_items n parts c.in-Some.at c.index_mut.result.now c.leave_part.new.part c.index_mut.ensures.value (found deque_items c.args.number c.in-Some.at c.deref.ensures.value c.in-Some.ensures.found) once c.leave_part.ensures.items in
    left ∙ ap (λ r. without (λ m. m == n) r.items) c.self.view_is ∙ ap (λ b. cond b (without (λ m. m == n) c.args.self.now.items) c.args.self.now.items) (sym c.if-not-stands.false)

pub returns-clause-room : goal.returns-clause-room
returns-clause-room c =
    room-set deque_capacity c.self.inside.parts.items c.in-Some.at c.index_mut.result.now c.leave_part.new.part c.index_mut.ensures.value c.leave_part.ensures.capacity ∙ ap (λ r. r.room) c.self.view_is

pub returns-in_default-clause-items : goal.returns-in_default-clause-items
returns-in_default-clause-items c =
    let n = c.args.number in
    let none = without-none (λ m. m == n) (strung deque_items c.self.inside.parts.items) (subst (λ ps. list_any (λ m. m == n) (strung deque_items ps) ≡ false) c.deref.ensures.value c.in_default.ensures.none) in
    sym (ap (λ r. r.items) c.self.view_is) ∙ sym none ∙ ap (λ r. without (λ m. m == n) r.items) c.self.view_is
    ∙ ap (λ b. cond b (without (λ m. m == n) c.args.self.now.items) c.args.self.now.items) (sym c.if-not-stands.false)
