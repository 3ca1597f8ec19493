use Rattle.std.proofs.Common.{◌≡◌, ◌-◌, sym, ap, ◌∙◌, arith}
use Rattle.my_pool_parts.specs.Connections.{is_idle, is_usable, retire, latest_usable}
use Rattle.my_pool_parts.specs.Lists.{how_many, found_is}
use Rattle.my_pool_parts.specs.Stored.{stored}
use Rattle.my_pool_parts.proofs.Retiring.{none-latest}
use Rattle.my_pool_parts.proofs.Turning.{retire-goes, retire-stops, retire-quiet, quiet, idle-found}
use Rattle.my_pool_parts.proofs.connections.Connections.retire.Goals as goal

pub returns-then-is_usable-clause-state : goal.returns-then-is_usable-clause-state
returns-then-is_usable-clause-state c =
    let s = c.loop-left.self in
    let i = c.loop-left.invariant in
    let h = c.idle_at-number.ensures in
    let found = idle-found (c.loop-left.left - 1) c.idle_at-number.result s.list h in
    let usable = sym (ap (found_is (is_usable c.args.now)) found) ∙ sym c.is_usable.ensures ∙ c.if-is_usable.true in
    let stops = retire-stops c.args.now (c.loop-left.left - 1) c.idle_at-number.result s.list h (omega (arith, i.idle)) usable in
    ap (λ cs. stored cs s.next s.coming s.room) (sym stops.0 ∙ i.retires)
    ∙ ap (λ n. stored (retire c.args.now c.args.self.now.list) n s.coming s.room) i.next
    ∙ ap (λ n. stored (retire c.args.now c.args.self.now.list) c.args.self.now.next n s.room) i.coming
    ∙ ap (λ n. stored (retire c.args.now c.args.self.now.list) c.args.self.now.next c.args.self.now.coming n) i.room

pub returns-then-is_usable-clause-latest : goal.returns-then-is_usable-clause-latest
returns-then-is_usable-clause-latest c =
    let s = c.loop-left.self in
    let i = c.loop-left.invariant in
    let h = c.idle_at-number.ensures in
    let found = idle-found (c.loop-left.left - 1) c.idle_at-number.result s.list h in
    let usable = sym (ap (found_is (is_usable c.args.now)) found) ∙ sym c.is_usable.ensures ∙ c.if-is_usable.true in
    let stops = retire-stops c.args.now (c.loop-left.left - 1) c.idle_at-number.result s.list h (omega (arith, i.idle)) usable in
    sym stops.1 ∙ i.latest

pub loop-left-preserved : goal.loop-left-preserved
loop-left-preserved c =
    let s = c.loop-left.self in
    let i = c.loop-left.invariant in
    let h = c.idle_at-number.ensures in
    let found = idle-found (c.loop-left.left - 1) c.idle_at-number.result s.list h in
    let over = sym (ap (found_is (is_usable c.args.now)) found) ∙ sym c.is_usable.ensures ∙ c.if-is_usable.false in
    let goes = retire-goes c.args.now (c.loop-left.left - 1) c.idle_at-number.result s.list h (omega (arith, i.idle)) over in
    let moved = ap (λ t. t.list) c.move_to.ensures in
    record {
      idle = sym goes.2 ∙ ap (how_many is_idle) (sym moved);
      retires = ap (retire c.args.now) moved ∙ goes.0 ∙ i.retires;
      latest = ap (latest_usable c.args.now) moved ∙ goes.1 ∙ i.latest;
      next = ap (λ t. t.next) c.move_to.ensures ∙ i.next;
      coming = ap (λ t. t.coming) c.move_to.ensures ∙ i.coming;
      room = ap (λ t. t.room) c.move_to.ensures ∙ i.room;
    }

pub returns-clause-state : goal.returns-clause-state
returns-clause-state c =
    let s = c.loop-left.self in
    let i = c.loop-left.invariant in
    let none : how_many is_idle s.list ≡ 0 = omega (arith, i.idle) in
    ap (λ cs. stored cs s.next s.coming s.room) (sym (retire-quiet c.args.now s.list none) ∙ i.retires)
    ∙ ap (λ n. stored (retire c.args.now c.args.self.now.list) n s.coming s.room) i.next
    ∙ ap (λ n. stored (retire c.args.now c.args.self.now.list) c.args.self.now.next n s.room) i.coming
    ∙ ap (λ n. stored (retire c.args.now c.args.self.now.list) c.args.self.now.next c.args.self.now.coming n) i.room

pub returns-clause-latest : goal.returns-clause-latest
returns-clause-latest c =
    let s = c.loop-left.self in
    let i = c.loop-left.invariant in
    let none : how_many is_idle s.list ≡ 0 = omega (arith, i.idle) in
    sym (none-latest c.args.now s.list (quiet c.args.now s.list none)) ∙ i.latest
