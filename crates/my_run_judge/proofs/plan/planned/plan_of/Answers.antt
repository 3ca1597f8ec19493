use Rattle.my_run_judge.proofs.Planning.{planned_more}
use Rattle.my_run_judge.proofs.plan.planned.plan_of.Goals as goal

pub lines-preserved : goal.lines-preserved
lines-preserved c = planned_more c.args.number c.args.lines.now c.lines.plan c.lines.left.now c.lines.invariant c.in-Some.line.now c.in-Some.later.now c.add.new.self c.in-Some.ensures.cases.0 c.in_ok-add.ensures.plan
    c.in_ok-add.ensures.within
