use Rattle.std.proofs.Common.{◌≡◌, ℕ, map, sym, ap, ◌∙◌, rules}
use Rattle.std.specs.Map.{values_of}
use Rattle.std.specs.Map.Iter.{deref}
use Rattle.std.proofs.lemmas.Simd.{map-map}
use Rattle.std.proofs.lemmas.Map.Iter.{iter_end}
use Rattle.my_pool_parts.specs.declared.seat.Seat.{Seat}
use Rattle.my_pool_parts.proofs.live.Live.list.Goals as goal

pub returns : goal.returns
returns c =
    let es = c.self.inside.seats.entries in
    let all : map deref c.loop-seat.yielded ≡ values_of es = search (rules, iter_end) in
    let seen = c.loop-seat.invariant ∙ sym (map-map (λ (s : Seat). s.request) deref c.loop-seat.yielded) in
    seen ∙ ap (map (λ (s : Seat). s.request)) all ∙ map-map (λ (s : Seat). s.request) (λ (e : ℕ × Seat). e.1) es ∙ c.self.view_is
