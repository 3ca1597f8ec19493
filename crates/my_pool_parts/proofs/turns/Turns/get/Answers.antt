use Rattle.std.proofs.Common.{◌≡◌, ◌+◌, ◌-◌, ◌<◌, ◌≤◌, ◌∷◌, Some, length, drop, deque_items, sym, ap, ◌∙◌, arith}
use Rattle.std.specs.Prelude.{slice_get}
use Rattle.std.proofs.lemmas.List.{drop_more}
use Rattle.my_pool_parts.specs.Row.{strung}
use Rattle.my_pool_parts.proofs.Strung.{part-read, part-passed, get-some}
use Rattle.my_pool_parts.proofs.turns.Turns.get.Goals as goal

pub returns-then-left-len : goal.returns-then-left-len
returns-then-left-len c =
    let parts = c.deref-part-items.result.now in
    let k = c.loop-part.part-index in
    let part = c.part-item.result in
    let here = drop_more parts k part (omega (arith, c.loop-part-test.true)) ∙ ap (λ p. p ∷ drop (k + 1) parts) (sym c.part-item.is) in
    let lt : c.loop-part.left < length part.items = omega (arith, c.if-left-len.true, c.len.ensures, part.ok.0) in
    record {
      number = ap Some c.index.ensures ∙ sym (get-some part.items c.loop-part.left c.index.result.now lt)
          ∙ sym (part-read deque_items (drop k parts) part (drop (k + 1) parts) c.loop-part.left here lt) ∙ c.loop-part.invariant;
    }

pub loop-part-preserved : goal.loop-part-preserved
loop-part-preserved c =
    let parts = c.deref-part-items.result.now in
    let k = c.loop-part.part-index in
    let part = c.part-item.result in
    let here = drop_more parts k part (omega (arith, c.loop-part-test.true)) ∙ ap (λ p. p ∷ drop (k + 1) parts) (sym c.part-item.is) in
    let le : length part.items ≤ c.loop-part.left = omega (arith, c.if-left-len.false, c.len.ensures, part.ok.0) in
    let same : c.loop-part.left - c.len-left.result ≡ c.loop-part.left - length part.items = omega (arith, c.len-left.ensures, part.ok.0) in
    ap (slice_get (strung deque_items (drop (k + 1) parts))) same
    ∙ sym (part-passed deque_items (drop k parts) part (drop (k + 1) parts) c.loop-part.left here le) ∙ c.loop-part.invariant
