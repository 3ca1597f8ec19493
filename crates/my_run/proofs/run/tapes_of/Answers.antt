use Rattle.std.proofs.Common.{◌≡◌, ◌<◌, ◌+◌, ◌==◌, ℕ, List, [], suc, length, map, true, false, sym, ap, ◌∙◌, vec_len, rules, arith}
use Rattle.std.proofs.lemmas.Bool.Decides.{nat_tests}
use Rattle.my_steps.specs.declared.slot.Slot.{Slot}
use Rattle.my_steps.specs.Slot.{handle_of}
use Rattle.my_run.specs.Tapes.{links_at, links_in, tape_at, tape_view, with_links}
use Rattle.my_run.proofs.Runs.Taping.{link_on, tape_on, with_none}
use Rattle.my_run.proofs.Stopping.{hands_end, hands_on, hands_out, nil_of}
use Rattle.my_run.proofs.run.tapes_of.Goals.{in-Ok, in-Err}
use Rattle.my_run.proofs.run.tapes_of.Goals as goal

nothing_left : (n : ℕ) → n == 0 ≡ true → n ≡ 0
nothing_left n e = grind (arith, nat_tests)

pub slots-preserved : goal.slots-preserved
slots-preserved g c =
    let some : 0 < length c.slots.slots.items = search rules in
    let more : c.slots.number + 1 ≡ suc c.slots.number = omega arith in
    let left : vec_len c.remove.new.self + 1 ≡ vec_len c.slots.slots = search rules in
    record {
      tapes = λ whole. elim c.match-keep_tape.branch [
        | in-Ok w ↦ tape_on g.N.L.Link.looks tape_at c.slots.number (c.slots.number + 1) c.slots.slots.items c.remove.new.self.items c.remove.result (map tape_view c.slots.tapes.items) (map tape_view c.keep_tape.new.tapes.items) _ some c.remove.ensures.value c.remove.ensures.items w.in-Ok.ensures.tape more (c.slots.invariant.tapes (sym w.is_whole-is ∙ whole))
        | in-Err w ↦ absurd (let no : false ≡ true = sym w.is_whole-is ∙ whole in cc)
      ];
      back = λ whole. elim c.match-keep_tape.branch [
        | in-Ok w ↦ link_on g.N.L.Link.looks links_at c.slots.number (c.slots.number + 1) c.slots.slots.items c.remove.new.self.items c.remove.result (g.N.Dialer.seen c.slots.world).back (g.N.Dialer.seen c.keep_tape.new.world).back _ some c.remove.ensures.value c.remove.ensures.items w.in-Ok.ensures.back more (c.slots.invariant.back (sym w.is_whole-is ∙ whole))
        | in-Err w ↦ absurd (let no : false ≡ true = sym w.is_whole-is ∙ whole in cc)
      ];
      hands = elim c.match-keep_tape.branch [
        | in-Ok w ↦ hands_on g.N.L.Link.looks c.slots.number (c.slots.number + 1) c.slots.slots.items c.remove.new.self.items c.remove.result c.slots.is_whole _ (g.N.Dialer.seen c.slots.world).back (g.N.Dialer.seen c.keep_tape.new.world).back _ some c.remove.ensures.value c.remove.ensures.items more w.is_whole-is w.in-Ok.ensures.back c.slots.invariant.hands
        | in-Err w ↦ hands_out g.N.L.Link.looks c.slots.number (c.slots.number + 1) c.slots.slots.items c.remove.new.self.items c.remove.result c.slots.is_whole _ (g.N.Dialer.seen c.slots.world).back (g.N.Dialer.seen c.keep_tape.new.world).back _ some c.remove.ensures.value c.remove.ensures.items more w.is_whole-is w.in-Err.ensures.err c.slots.invariant.hands
      ];
      dials = c.keep_tape.ensures.dials ∙ c.slots.invariant.dials;
      chance = c.keep_tape.ensures.chance ∙ c.slots.invariant.chance;
      count = omega (arith, left, c.slots.invariant.count);
    }

pub returns-then-not-is_whole-clause-err : goal.returns-then-not-is_whole-clause-err
returns-then-not-is_whole-clause-err g c =
    let empty : vec_len c.slots.slots == 0 ≡ true = sym c.is_empty.ensures ∙ c.slots-test.false in
    let count : length c.slots.slots.items ≡ 0 = omega (arith, c.slots.slots.ok.0, nothing_left (vec_len c.slots.slots) empty) in
    let none : c.slots.slots.items ≡ [] = nil_of c.slots.slots.items count in
    hands_end g.N.L.Link.looks c.slots.number c.slots.slots.items c.slots.is_whole (links_in 0 (map (handle_of g.N.L.Link.looks) c.args.slots.items)) (g.N.Dialer.seen c.args.world.now).back (g.N.Dialer.seen c.slots.world).back none c.slots.invariant.hands

pub returns-clause-back : goal.returns-clause-back
returns-clause-back g c =
    let empty : vec_len c.slots.slots == 0 ≡ true = sym c.is_empty.ensures ∙ c.slots-test.false in
    let count : length c.slots.slots.items ≡ 0 = omega (arith, c.slots.slots.ok.0, nothing_left (vec_len c.slots.slots) empty) in
    let none : c.slots.slots.items ≡ [] = nil_of c.slots.slots.items count in
    let back = (g.N.Dialer.seen c.slots.world).back in
    sym (with_none back) ∙ ap (λ (xs : List (Slot g.row.N-L.Denot)). with_links (links_in c.slots.number (map (handle_of g.N.L.Link.looks) xs)) back) (sym none) ∙ c.slots.invariant.back c.if-not-is_whole.false
