use Rattle.std.proofs.Common.{◌<◌, length, set, length-set, refl, ap, ◌∙◌, arith}
use Rattle.std.specs.Vec.{with_item}
use Rattle.my_pool_parts.specs.Row.{joined, room_of}
use Rattle.my_pool_parts.proofs.Filled.{joined-length, index-small, spotted, offset-there, written-filled, written-joined}
use Rattle.my_pool_parts.proofs.levels.Levels.set.Goals as goal

pub spot_of-level-requires : goal.spot_of-level-requires
spot_of-level-requires g c =
    let ls = c.self.inside.levels.items in
    index-small ls c.self.inside.len c.args.index c.self.invariant.0 c.self.invariant.1 (omega (arith, c.requires, ap (λ r. length r.items) c.self.view_is, joined-length ls 1 c.self.inside.len c.self.invariant.0))

pub index_mut-requires : goal.index_mut-requires
index_mut-requires g c =
    let ls = c.self.inside.levels.items in
    let lt : c.args.index < c.self.inside.len = omega (arith, c.requires, ap (λ r. length r.items) c.self.view_is, joined-length ls 1 c.self.inside.len c.self.invariant.0) in
    omega (arith, (spotted ls _ _ _ _ c.self.invariant.0 lt c.spot_of-level.ensures.whole c.spot_of-level.ensures.within).there, c.self.inside.levels.ok.0)

pub index_mut-requires-2 : goal.index_mut-requires-2
index_mut-requires-2 g c =
    let ls = c.self.inside.levels.items in
    let lt : c.args.index < c.self.inside.len = omega (arith, c.requires, ap (λ r. length r.items) c.self.view_is, joined-length ls 1 c.self.inside.len c.self.invariant.0) in
    let s = spotted ls _ _ _ _ c.self.invariant.0 lt c.spot_of-level.ensures.whole c.spot_of-level.ensures.within in
    omega (arith, offset-there ls 1 _ _ _ c.index_mut.result.now c.self.invariant.0 s.before s.within c.index_mut.ensures.value, c.index_mut.result.now.ok.0)

pub invariant_of-self : goal.invariant_of-self
invariant_of-self g c =
    let ls = c.self.inside.levels.items in
    let k = c.spot_of-level.result.level in
    let o = c.spot_of-level.result.offset in
    let l = c.index_mut.result.now in (
      written-filled ls 1 c.self.inside.len k o l (with_item l o c.args.value) c.args.value c.self.invariant.0 c.index_mut.ensures.value refl (omega arith),
      omega (arith, c.self.invariant.1, length-set ls k (with_item l o c.args.value)),
    )

pub returns-clause-items : goal.returns-clause-items
returns-clause-items g c =
    let ls = c.self.inside.levels.items in
    let k = c.spot_of-level.result.level in
    let o = c.spot_of-level.result.offset in
    let l = c.index_mut.result.now in
    let lt : c.args.index < c.self.inside.len = omega (arith, c.requires, ap (λ r. length r.items) c.self.view_is, joined-length ls 1 c.self.inside.len c.self.invariant.0) in
    let s = spotted ls _ _ _ _ c.self.invariant.0 lt c.spot_of-level.ensures.whole c.spot_of-level.ensures.within in
    written-joined ls 1 _ k o l (with_item l o c.args.value) c.args.value c.self.invariant.0 s.before s.within c.index_mut.ensures.value refl ∙ ap (λ i. set (joined ls) i c.args.value) s.at
    ∙ ap (λ r. set r.items c.args.index c.args.value) c.self.view_is

pub returns-clause-room : goal.returns-clause-room
returns-clause-room g c = ap room_of (length-set c.self.inside.levels.items c.spot_of-level.result.level (with_item c.index_mut.result.now c.spot_of-level.result.offset c.args.value)) ∙ ap (λ r. r.room) c.self.view_is
