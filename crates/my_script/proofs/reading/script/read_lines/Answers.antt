use Rattle.std.proofs.Common.{◌≡◌, ◌+◌, Option, Some, None, List, ℕ, ap, ◌∙◌, subst, length, take, rules, arith}
use Rattle.my_script.specs.Cut.{pieces_left}
use Rattle.my_script.specs.Line.{line_of}
use Rattle.my_script.specs.Script.{Script, Bad, front, with_item, script_from, script_of, admitted}
use Rattle.my_script.proofs.Scripts.{line_bad, line_good, text_of, less_left, left_over}
use Rattle.my_script.proofs.reading.script.read_lines.Goals as goal

pub returns-in_default-admitted : goal.returns-in_default-admitted
returns-in_default-admitted c =
    let none : admitted c.args.plans c.lines.sofar c.in_ok-item.item ≡ None = search rules in
    let is : text_of c.lines.rest ≡ Some c.in-Some.text.now = search rules in
    ap (λ n. Bad n c.in_ok-bad_line.field-0.text) c.in_ok-bad_line.ensures.number
    ∙ ap (Bad c.lines.number) (c.in_ok-bad_line.ensures.text ∙ ap (take 200) c.cut-pieces.ensures.first)
    ∙ line_bad c.args.plans c.lines.sofar c.lines.number c.in-Some.text.now c.in_ok-item.item c.lines.script.plan.items c.lines.script.steps.items _ (c.in_ok-item.ensures ∙ ap line_of c.cut-pieces.ensures.first) none
    (subst (λ (r : Option (List ℕ)). front c.lines.script.plan.items c.lines.script.steps.items (script_from c.args.plans c.lines.sofar c.lines.number (pieces_left 10 r)) ≡ script_of c.args.plans c.args.bytes.now) is c.lines.invariant.so)

pub lines-preserved : goal.lines-preserved
lines-preserved c =
    let some : admitted c.args.plans c.lines.sofar c.in_ok-item.item ≡ Some c.in-Some-admitted.after = search rules in
    let is : text_of c.lines.rest ≡ Some c.in-Some.text.now = search rules in
    let size : left_over c.lines.rest ≡ length c.in-Some.text.now + 1 = search rules in
    let adds : (more : Script) → front c.add.new.script.plan.items c.add.new.script.steps.items more ≡ front c.lines.script.plan.items c.lines.script.steps.items (with_item c.in_ok-item.item more) = c.in_ok-add.ensures in
    let less = less_left c.cut-pieces.result.rest (length c.in-Some.text.now) c.cut-pieces.ensures.shorter in
    record {
      so = line_good c.args.plans c.lines.sofar c.in-Some-admitted.after c.lines.number c.in-Some.text.now c.in_ok-item.item c.lines.script.plan.items c.add.new.script.plan.items c.lines.script.steps.items c.add.new.script.steps.items (text_of c.cut-pieces.result.rest) _ (c.in_ok-item.ensures ∙ ap line_of c.cut-pieces.ensures.first) some c.cut-pieces.ensures.rest adds
          (subst (λ (r : Option (List ℕ)). front c.lines.script.plan.items c.lines.script.steps.items (script_from c.args.plans c.lines.sofar c.lines.number (pieces_left 10 r)) ≡ script_of c.args.plans c.args.bytes.now) is c.lines.invariant.so);
      small = omega (arith, c.lines.invariant.small, size, less);
    }
