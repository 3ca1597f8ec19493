use Rattle.std.proofs.Common.{◌<◌, ◌+◌, ◌^◌, ◌++◌, [], ◌∷◌, length, length-set, ap, ◌∙◌, arith, rules}
use Rattle.std.specs.Prelude.{is_ok, if◌then◌else◌}
use Rattle.my_pool_parts.specs.Row.{room_of}
use Rattle.my_pool_parts.proofs.Filled.{start-at, joined-length, room-small, level-within, push-room, pushed-filled, pushed-joined}
use Rattle.my_pool_parts.proofs.levels.Levels.push.Goals as goal

pub spot_of-level-requires : goal.spot_of-level-requires
spot_of-level-requires g c =
    let ls = c.self.inside.levels.items in
    omega (arith, c.requires, ap (λ r. length r.items) c.self.view_is, ap (λ r. r.room) c.self.view_is, joined-length ls 1 c.self.inside.len c.self.invariant.0, room-small (length ls) c.self.invariant.1)

pub index_mut-requires : goal.index_mut-requires
index_mut-requires g c =
    let ls = c.self.inside.levels.items in
    let lt : c.self.inside.len < room_of (length ls) = omega (arith, c.requires, ap (λ r. length r.items) c.self.view_is, ap (λ r. r.room) c.self.view_is, joined-length ls 1 c.self.inside.len c.self.invariant.0) in
    omega (arith, level-within c.self.inside.len c.spot_of-level.result.level (length ls) lt (omega (arith, c.spot_of-level.ensures.whole)), c.self.inside.levels.ok.0)

pub unwrap-requires : goal.unwrap-requires
unwrap-requires g c =
    let ls = c.self.inside.levels.items in
    let k = c.spot_of-level.result.level in
    let o = c.spot_of-level.result.offset in
    let l = c.index_mut.result.now in
    let lt : c.self.inside.len < room_of (length ls) = omega (arith, c.requires, ap (λ r. length r.items) c.self.view_is, ap (λ r. r.room) c.self.view_is, joined-length ls 1 c.self.inside.len c.self.invariant.0) in
    let there = level-within c.self.inside.len k (length ls) lt (omega (arith, c.spot_of-level.ensures.whole)) in
    c.push.ensures.succeeds (omega (arith, push-room ls 1 c.self.inside.len k o l c.self.invariant.0 (start-at c.self.inside.len k o c.spot_of-level.ensures.whole) (omega (arith, c.spot_of-level.ensures.within)) there c.index_mut.ensures.value, l.ok.0))

pub overflow_add-self : goal.overflow_add-self
overflow_add-self g c =
    let ls = c.self.inside.levels.items in
    let small : c.self.inside.len + 1 < 2 ^ 64 = omega (arith, c.requires, ap (λ r. length r.items) c.self.view_is, ap (λ r. r.room) c.self.view_is, joined-length ls 1 c.self.inside.len c.self.invariant.0, room-small (length ls) c.self.invariant.1) in
    search (rules, small)

pub invariant_of-self : goal.invariant_of-self
invariant_of-self g c =
    let ls = c.self.inside.levels.items in
    let k = c.spot_of-level.result.level in
    let o = c.spot_of-level.result.offset in
    let l = c.index_mut.result.now in
    let lt : c.self.inside.len < room_of (length ls) = omega (arith, c.requires, ap (λ r. length r.items) c.self.view_is, ap (λ r. r.room) c.self.view_is, joined-length ls 1 c.self.inside.len c.self.invariant.0) in
    let there = level-within c.self.inside.len k (length ls) lt (omega (arith, c.spot_of-level.ensures.whole)) in
    let pushed = c.push.ensures.items ∙ ap (λ r. if is_ok r then l.items ++ c.args.value ∷ [] else l.items) c.unwrap.ensures in (
      pushed-filled ls 1 c.self.inside.len k o l c.push.new.self c.args.value c.self.invariant.0 (start-at c.self.inside.len k o c.spot_of-level.ensures.whole) (omega (arith, c.spot_of-level.ensures.within)) there c.index_mut.ensures.value pushed c.push.ensures.capacity,
      omega (arith, c.self.invariant.1, length-set ls k c.push.new.self),
    )

pub returns-clause-items : goal.returns-clause-items
returns-clause-items g c =
    let ls = c.self.inside.levels.items in
    let k = c.spot_of-level.result.level in
    let o = c.spot_of-level.result.offset in
    let l = c.index_mut.result.now in
    let lt : c.self.inside.len < room_of (length ls) = omega (arith, c.requires, ap (λ r. length r.items) c.self.view_is, ap (λ r. r.room) c.self.view_is, joined-length ls 1 c.self.inside.len c.self.invariant.0) in
    let there = level-within c.self.inside.len k (length ls) lt (omega (arith, c.spot_of-level.ensures.whole)) in
    let pushed = c.push.ensures.items ∙ ap (λ r. if is_ok r then l.items ++ c.args.value ∷ [] else l.items) c.unwrap.ensures in
    pushed-joined ls 1 c.self.inside.len k o l c.push.new.self c.args.value c.self.invariant.0 (start-at c.self.inside.len k o c.spot_of-level.ensures.whole) (omega (arith, c.spot_of-level.ensures.within)) there c.index_mut.ensures.value pushed
    ∙ ap (λ r. r.items ++ c.args.value ∷ []) c.self.view_is

pub returns-clause-room : goal.returns-clause-room
returns-clause-room g c = ap room_of (length-set c.self.inside.levels.items c.spot_of-level.result.level c.push.new.self) ∙ ap (λ r. r.room) c.self.view_is
