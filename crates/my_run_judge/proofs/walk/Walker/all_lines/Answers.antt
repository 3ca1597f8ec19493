use Rattle.std.proofs.Common.{◌+◌, sym, subst}
use Rattle.std.proofs.lemmas.List.{nil_from_length}
use Rattle.my_run_judge.specs.declared.made.Made.{Made}
use Rattle.my_run_judge.specs.Seen.{seen}
use Rattle.my_run_judge.proofs.Whole.{Judged, ends, goes_on, refutes}
use Rattle.my_run_judge.proofs.walk.Walker.all_lines.Goals as goal

pub returns-then-not-branch : goal.returns-then-not-branch
returns-then-not-branch c = refutes c.args.login.now c.args.number (seen c.args.tape.now) c.args.steps.now c.args.answers.now c.lines.index c.lines.made c.lines.self c.lines.left.now c.lines.others.now c.lines.invariant
    c.in-Some.step.now c.in-Some.later_steps.now c.in-Some-split_first.answer.now c.in-Some-split_first.later_answers.now c.in-Some.ensures.cases.0 c.in-Some-split_first.ensures.cases.0 c.line.new.self
    (rw c.if-not-branch.true at (c.in_ok-line.ensures c.lines.invariant.place c.lines.invariant.at))

pub lines-preserved : goal.lines-preserved
lines-preserved c = subst (λ (m : Made). Judged c.args.login.now c.args.number (seen c.args.tape.now) c.args.steps.now c.args.answers.now (c.lines.index + 1) m c.line.new.self c.in-Some.later_steps.now c.in-Some-split_first.later_answers.now)
    (sym c.in_ok-note.ensures)
    (goes_on c.args.login.now c.args.number (seen c.args.tape.now) c.args.steps.now c.args.answers.now c.lines.index c.lines.made c.lines.self c.lines.left.now c.lines.others.now c.lines.invariant
    c.in-Some.step.now c.in-Some.later_steps.now c.in-Some-split_first.answer.now c.in-Some-split_first.later_answers.now c.in-Some.ensures.cases.0 c.in-Some-split_first.ensures.cases.0 c.line.new.self
    (rw c.if-not-branch.false at (c.in_ok-line.ensures c.lines.invariant.place c.lines.invariant.at)))

pub returns : goal.returns
returns c = ends c.args.login.now c.args.number (seen c.args.tape.now) c.args.steps.now c.args.answers.now c.lines.index c.lines.made c.lines.self c.lines.left.now c.lines.others.now c.lines.invariant
    (nil_from_length c.lines.left.now c.in_default.ensures.cases) c.in_ok-found.found (c.in_ok-found.ensures c.lines.invariant.place c.lines.invariant.at)
