use Rattle.std.proofs.Common.{◌++◌, true, sym, ap, ◌∙◌, arith, refl}
use Rattle.my_pool_parts.specs.Connections.{is_idle, is_outdated, lasting, outdated}
use Rattle.my_pool_parts.specs.Lists.{how_many, found_is}
use Rattle.my_pool_parts.specs.Stored.{stored}
use Rattle.my_pool_parts.proofs.Turning.{swept-begins, swept-stays, swept-goes, swept-ends, swept-as, fewer-idle, idle-found}
use Rattle.my_pool_parts.proofs.connections.Connections.sweep.Goals as goal
use Rattle.my_pool_parts.proofs.connections.Connections.sweep.Goals.{then-is_outdated, else-is_outdated}

pub turns-init : goal.turns-init
turns-init c = record {
  so_far = swept-begins c.args.self.now.list c.args.now c.args.inactive c.args.many;
  turns = refl;
  within = omega arith;
  idle = omega (arith, c.count_idle-end.ensures);
  next = refl;
  coming = refl;
  room = refl;
}

pub turns-preserved : goal.turns-preserved
turns-preserved c =
    let i = c.turns.invariant in
    let s = c.turns.self in
    let old = c.args.self.now.list in
    let h = c.idle_at-number.ensures in
    let n = c.idle_at-number.result in
    let found = idle-found c.turns.index n s.list h in
    let tested = sym (ap (found_is (λ x. is_outdated c.args.now c.args.inactive c.args.many c.turns.moved x.place)) found) ∙ sym c.is_outdated.ensures in
    elim c.if-is_outdated.branch [
      | then-is_outdated w ↦
          let moved = ap (λ t. t.list) w.self-is ∙ ap (λ t. t.list) w.move_to.ensures in
          record {
            so_far = swept-as old c.args.now c.args.inactive c.args.many _ _ _ _ _ _
                (swept-goes old s.list c.args.now c.args.inactive c.args.many c.turns.index c.turns.moved n i.so_far h (tested ∙ w.if-is_outdated.true)) moved w.index-is w.moved-is;
            turns = omega (arith, w.index-is, w.moved-is, i.turns);
            within = omega arith;
            idle = omega (arith, i.idle, w.moved-is, ap (how_many is_idle) moved, fewer-idle c.turns.index n true s.list h);
            next = ap (λ t. t.next) w.self-is ∙ ap (λ t. t.next) w.move_to.ensures ∙ i.next;
            coming = ap (λ t. t.coming) w.self-is ∙ ap (λ t. t.coming) w.move_to.ensures ∙ i.coming;
            room = ap (λ t. t.room) w.self-is ∙ ap (λ t. t.room) w.move_to.ensures ∙ i.room;
          }
      | else-is_outdated w ↦ record {
        so_far = swept-as old c.args.now c.args.inactive c.args.many _ _ _ _ _ _
            (swept-stays old s.list c.args.now c.args.inactive c.args.many c.turns.index c.turns.moved n i.so_far h (tested ∙ w.if-is_outdated.false)) (ap (λ t. t.list) w.self-is) w.index-is w.moved-is;
        turns = omega (arith, w.index-is, w.moved-is, i.turns);
        within = omega arith;
        idle = omega (arith, i.idle, w.moved-is, ap (λ t. how_many is_idle t.list) w.self-is);
        next = ap (λ t. t.next) w.self-is ∙ i.next;
        coming = ap (λ t. t.coming) w.self-is ∙ i.coming;
        room = ap (λ t. t.room) w.self-is ∙ i.room;
      }
    ]

pub returns-clause-state : goal.returns-clause-state
returns-clause-state c =
    let s = c.turns.self in
    let i = c.turns.invariant in
    let ends = swept-ends _ _ _ _ _ _ _ i.so_far (omega (arith, i.idle, i.turns)) in
    let all = lasting c.args.now c.args.inactive c.args.many 0 c.args.self.now.list ++ outdated c.args.now c.args.inactive c.args.many 0 c.args.self.now.list in
    ap (λ cs. stored cs s.next s.coming s.room) ends.0
    ∙ ap (λ n. stored all n s.coming s.room) i.next
    ∙ ap (λ n. stored all c.args.self.now.next n s.room) i.coming
    ∙ ap (λ n. stored all c.args.self.now.next c.args.self.now.coming n) i.room

pub returns-clause-moved : goal.returns-clause-moved
returns-clause-moved c = (swept-ends _ _ _ _ _ _ _ c.turns.invariant.so_far (omega (arith, c.turns.invariant.idle, c.turns.invariant.turns))).1
