use Rattle.std.proofs.Common.{◌≡◌, ℕ, ◌+◌, ◌-◌, ◌++◌, ◌∷◌, [], Option, None, length, length-append, append_assoc, arith, sym, ap, ◌∙◌, subst}
use Rattle.std.specs.Prelude.{replicate}
use Rattle.std.proofs.lemmas.List.{length-replicate}
use Rattle.my_pool_parts.specs.Live.{IsQueue}
use Rattle.my_pool_parts.proofs.Queue.{queue-more, queue-slot}
use Rattle.my_pool_parts.proofs.live.have_slot.Goals as goal

pub returns-clause-queue : goal.returns-clause-queue
returns-clause-queue c = λ ages slots count h.
    let all = slots ++ c.args.free.now.items in
    let k = c.args.count + 1 - length c.args.heap.now in
    let none : Option ℕ = None in
    let empty : length c.args.free.now.items ≡ 0 = omega (arith, c.if-len-gt0.false, c.len.ensures.count) in
    let n : length all ≡ c.args.count = omega (arith, length-append slots c.args.free.now.items, count, empty) in
    let more = queue-slot (queue-more k h) (omega (arith, length-append c.args.heap.now (replicate k none), length-replicate k none, n)) in
    let pushed = c.push.ensures.items ∙ ap (λ xs. xs ++ c.args.count ∷ []) c.reserve.ensures.items in
    let items = ap (λ m. all ++ m ∷ []) n ∙ append_assoc slots c.args.free.now.items (c.args.count ∷ []) ∙ ap (λ xs. slots ++ xs) (sym pushed) in
    subst (λ xs. IsQueue ages xs c.reserve-2.new.self) items (subst (λ hs. IsQueue ages (all ++ length all ∷ []) hs) (sym c.in_ok-reserve-2.ensures.ok) more)
