use Rattle.std.proofs.Common.{◌≡◌, ℕ, ◌+◌, ◌<◌, List, ◌++◌, take, drop, min, Bool, false, eqb, sym, ap, ◌∙◌, arith}
use Rattle.std.proofs.lemmas.Bool.{eqb-false}
use Rattle.std.proofs.lemmas.List.{take-append-drop, drop-drop}
use Rattle.my_frame.proofs.source.MemSourceSource.read.Goals as goal

-- bytes that go from the front of what is left
moves_on : (items : List ℕ) (from count : ℕ) → drop from items ≡ take count (drop from items) ++ drop (from + count) items
moves_on items from count = sym (take-append-drop count (drop from items)) ∙ ap (λ x. take count (drop from items) ++ x) (drop-drop count from items)

some_bytes : (buf left count : ℕ) (none : Bool) → none ≡ eqb left 0 → none ≡ false → 0 < buf → count ≡ min buf left → 0 < count
some_bytes buf left count none is some room count_is =
    let more = eqb-false left 0 (sym is ∙ some) in
    omega arith

pub returns-clause-bytes : goal.returns-clause-bytes
returns-clause-bytes c =
    let copied = c.copy_front-count.ensures in (
      some_bytes _ _ _ _ c.is_empty.ensures c.if-is_empty.false c.requires copied.count,
      omega (arith, copied.count),
      rw (← c.self.view_is, copied.copied, c.split_at.ensures.back, c.as_slice.ensures.value) (moves_on c.self.inside.bytes.items c.self.inside.from c.copy_front-count.result),
    )
