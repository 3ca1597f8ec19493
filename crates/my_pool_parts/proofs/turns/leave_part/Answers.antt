use Rattle.std.proofs.Common.{◌≡◌, ◌+◌, ◌-◌, refl, sym, ◌∙◌, arith, length, deque_len}
use Rattle.std.specs.Prelude.{◌==◌}
use Rattle.my_pool_parts.proofs.Finding.{without-position, without-nothing, position-is}
use Rattle.my_pool_parts.proofs.Queues.{without-back, on-some}
use Rattle.my_pool_parts.proofs.turns.leave_part.Goals as goal

pub returns-clause-items : goal.returns-clause-items
returns-clause-items c =
    let q = c.args.part.now in
    let n = c.args.number in
    let k = deque_len q - 1 in
    let last : c.in-Some.last.now ≡ n = c.if-last-number.true in
    let some : k + 1 ≡ length q.items = omega (arith, q.ok.0, c.in-Some.ensures.variant.0 refl) in
    c.pop_back.ensures.rest ∙ sym (without-back n k q.items c.in-Some.last.now c.requires some (sym c.in-Some.ensures.lookup ∙ last))

pub returns-in-Some-index_of-clause-items : goal.returns-in-Some-index_of-clause-items
returns-in-Some-index_of-clause-items c =
    let q = c.args.part.now in
    let n = c.args.number in
    let i = c.in-Some-index_of.index in
    let e = sym c.index_of.ensures.index ∙ c.in-Some-index_of.is in
    let at = position-is (λ m. m == n) q.items i e in
    let gone = c.remove.ensures.succeeds n (omega (arith, at.0, q.ok.0)) in
    on-some c.remove.result _ gone c.remove.ensures.items ∙ sym (without-position (λ m. m == n) q.items i e)

pub returns-in_default-clause-items : goal.returns-in_default-clause-items
returns-in_default-clause-items c =
    let q = c.args.part.now in
    let n = c.args.number in
    let e = sym c.index_of.ensures.index ∙ c.in_default-2.is in
    sym (without-nothing (λ m. m == n) q.items e)
