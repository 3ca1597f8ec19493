use Rattle.std.proofs.Common.{◌<◌, length, get_or, sym, ap, ◌∙◌, arith}
use Rattle.my_pool_parts.specs.Row.{joined}
use Rattle.my_pool_parts.proofs.Filled.{joined-length, index-small, spotted, offset-there, read-there}
use Rattle.my_pool_parts.proofs.levels.Levels.get.Goals as goal

pub spot_of-level-requires : goal.spot_of-level-requires
spot_of-level-requires g c =
    let ls = c.self.inside.levels.items in
    index-small ls c.self.inside.len c.args.index c.self.invariant.0 c.self.invariant.1 (omega (arith, c.requires, ap (λ r. length r.items) c.self.view_is, joined-length ls 1 c.self.inside.len c.self.invariant.0))

pub index-requires : goal.index-requires
index-requires g c =
    let ls = c.self.inside.levels.items in
    let lt : c.args.index < c.self.inside.len = omega (arith, c.requires, ap (λ r. length r.items) c.self.view_is, joined-length ls 1 c.self.inside.len c.self.invariant.0) in
    omega (arith, (spotted ls _ _ _ _ c.self.invariant.0 lt c.spot_of-level.ensures.whole c.spot_of-level.ensures.within).there, c.self.inside.levels.ok.0)

pub index-requires-2 : goal.index-requires-2
index-requires-2 g c =
    let ls = c.self.inside.levels.items in
    let lt : c.args.index < c.self.inside.len = omega (arith, c.requires, ap (λ r. length r.items) c.self.view_is, joined-length ls 1 c.self.inside.len c.self.invariant.0) in
    let s = spotted ls _ _ _ _ c.self.invariant.0 lt c.spot_of-level.ensures.whole c.spot_of-level.ensures.within in
    omega (arith, offset-there ls 1 _ _ _ c.index.result.now c.self.invariant.0 s.before s.within c.index.ensures, c.index.result.now.ok.0)

pub returns : goal.returns
returns g c =
    let ls = c.self.inside.levels.items in
    let lt : c.args.index < c.self.inside.len = omega (arith, c.requires, ap (λ r. length r.items) c.self.view_is, joined-length ls 1 c.self.inside.len c.self.invariant.0) in
    let s = spotted ls _ _ _ _ c.self.invariant.0 lt c.spot_of-level.ensures.whole c.spot_of-level.ensures.within in
    let x = c.index-2.result.now in
    record {
      element = c.index-2.ensures ∙ sym (read-there ls 1 _ _ _ c.index.result.now x c.self.invariant.0 s.before s.within c.index.ensures)
          ∙ ap (λ i. get_or (joined ls) i x) s.at ∙ ap (λ r. get_or r.items c.args.index x) c.self.view_is;
    }
