use Rattle.my_run_judge.proofs.Finding.{plans_found}
use Rattle.my_run_judge.proofs.plan.runs.judge_plans.Goals as goal

pub returns : goal.returns
returns c = record {
  exact = plans_found c.args.lines.now c.args.steps.now c.args.answers.now c.args.tapes.now c.in_ok-dials.dials c.in_ok-links.links c.earlier.result c.earlier.ensures c.in_ok-dials.ensures c.in_ok-links.ensures;
}
