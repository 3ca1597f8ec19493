use Rattle.std.proofs.Common.{◌<◌, ◌-◌, length, take, length-set, sym, ap, ◌∙◌, subst, arith}
use Rattle.my_pool_parts.specs.Row.{joined, room_of, IsFilled}
use Rattle.my_pool_parts.proofs.Filled.{joined-length, index-small, spotted, dropped-filled, dropped-joined}
use Rattle.my_pool_parts.proofs.levels.Levels.drop_last.Goals as goal

pub overflow_sub-self : goal.overflow_sub-self
overflow_sub-self g c =
    let ls = c.self.inside.levels.items in
    omega (arith, c.requires, ap (λ r. length r.items) c.self.view_is, joined-length ls 1 c.self.inside.len c.self.invariant.0)

pub spot_of-level-requires : goal.spot_of-level-requires
spot_of-level-requires g c =
    let ls = c.self.inside.levels.items in
    index-small ls c.self.inside.len (c.self.inside.len - 1) c.self.invariant.0 c.self.invariant.1 (omega (arith, c.requires, ap (λ r. length r.items) c.self.view_is, joined-length ls 1 c.self.inside.len c.self.invariant.0))

pub index_mut-requires : goal.index_mut-requires
index_mut-requires g c =
    let ls = c.self.inside.levels.items in
    let lt : c.self.inside.len - 1 < c.self.inside.len = omega (arith, c.requires, ap (λ r. length r.items) c.self.view_is, joined-length ls 1 c.self.inside.len c.self.invariant.0) in
    omega (arith, (spotted ls _ _ _ _ c.self.invariant.0 lt c.spot_of-level.ensures.whole c.spot_of-level.ensures.within).there, c.self.inside.levels.ok.0)

pub invariant_of-self : goal.invariant_of-self
invariant_of-self g c =
    let ls = c.self.inside.levels.items in
    let k = c.spot_of-level.result.level in
    let o = c.spot_of-level.result.offset in
    let l = c.index_mut.result.now in
    let lt : c.self.inside.len - 1 < c.self.inside.len = omega (arith, c.requires, ap (λ r. length r.items) c.self.view_is, joined-length ls 1 c.self.inside.len c.self.invariant.0) in
    let s = spotted ls _ _ k o c.self.invariant.0 lt c.spot_of-level.ensures.whole c.spot_of-level.ensures.within in
    let more = subst (λ n. IsFilled 1 n ls) (omega (arith, lt)) c.self.invariant.0 in
    let rest = c.pop.ensures.rest ∙ ap (λ n. take (n - 1) l.items) l.ok.0 in (
      dropped-filled ls 1 (c.self.inside.len - 1) k o l c.pop.new.self more s.at s.within c.index_mut.ensures.value rest (omega (arith, c.pop.ensures.capacity)),
      omega (arith, c.self.invariant.1, length-set ls k c.pop.new.self),
    )

pub returns-clause-items : goal.returns-clause-items
returns-clause-items g c =
    let ls = c.self.inside.levels.items in
    let k = c.spot_of-level.result.level in
    let o = c.spot_of-level.result.offset in
    let l = c.index_mut.result.now in
    let lt : c.self.inside.len - 1 < c.self.inside.len = omega (arith, c.requires, ap (λ r. length r.items) c.self.view_is, joined-length ls 1 c.self.inside.len c.self.invariant.0) in
    let s = spotted ls _ _ k o c.self.invariant.0 lt c.spot_of-level.ensures.whole c.spot_of-level.ensures.within in
    let more = subst (λ n. IsFilled 1 n ls) (omega (arith, lt)) c.self.invariant.0 in
    let rest = c.pop.ensures.rest ∙ ap (λ n. take (n - 1) l.items) l.ok.0 in
    dropped-joined ls 1 (c.self.inside.len - 1) k o l c.pop.new.self more s.at s.within c.index_mut.ensures.value rest ∙ ap (λ n. take (n - 1) (joined ls)) (sym (joined-length ls 1 c.self.inside.len c.self.invariant.0))
    ∙ ap (λ r. take (length r.items - 1) r.items) c.self.view_is

pub returns-clause-room : goal.returns-clause-room
returns-clause-room g c = ap room_of (length-set c.self.inside.levels.items c.spot_of-level.result.level c.pop.new.self) ∙ ap (λ r. r.room) c.self.view_is
