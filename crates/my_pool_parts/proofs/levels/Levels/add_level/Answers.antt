use Rattle.std.proofs.Common.{◌≡◌, ◌+◌, ◌*◌, ◌^◌, length, sym, ap, ap₂, ◌∙◌, subst, arith}
use Rattle.std.specs.Vec.{vec_capacity}
use Rattle.std.proofs.lemmas.List.{length_push}
use Rattle.my_pool_parts.specs.Row.{row, joined, room_of, IsFilled}
use Rattle.my_pool_parts.proofs.Filled.{grown-filled, grown-joined, few-levels, room-more}
use Rattle.my_pool_parts.proofs.levels.Levels.add_level.Goals as goal

pub invariant_of-self-2 : goal.invariant_of-self-2
invariant_of-self-2 g c =
    let ls = c.self.inside.levels.items in
    let new = c.in_ok-level.level in
    let size : vec_capacity new ≡ 2 ^ length ls = c.in_ok-level.ensures.exact ∙ c.size_of_level.ensures.size ∙ ap (λ k. 2 ^ k) (c.len.ensures ∙ c.self.inside.levels.ok.0) in
    let items = c.in_ok-push.ensures.items in (
      subst (λ xs. IsFilled 1 c.self.inside.len xs) (sym items) (grown-filled ls 1 c.self.inside.len new c.self.invariant.0 c.in_ok-level.ensures.items (omega (arith, size))),
      omega (arith, few-levels (length ls) (omega (arith, size, new.small)), ap length items, length_push ls new),
    )

pub returns-clause-ok : goal.returns-clause-ok
returns-clause-ok g c =
    let ls = c.self.inside.levels.items in
    let new = c.in_ok-level.level in
    let items = c.in_ok-push.ensures.items in
    let count : length c.push.new.self.items ≡ length ls + 1 = ap length items ∙ length_push ls new in
    ap₂ row (ap joined items ∙ grown-joined ls new c.in_ok-level.ensures.items) (ap room_of count ∙ room-more (length ls))
    ∙ ap (λ r. row r.items (2 * r.room + 1)) c.self.view_is
