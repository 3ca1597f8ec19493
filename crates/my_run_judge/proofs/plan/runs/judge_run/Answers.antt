use Rattle.my_run_judge.proofs.Finding.{run_found}
use Rattle.my_run_judge.proofs.plan.runs.judge_run.Goals as goal

pub returns : goal.returns
returns c = record {
  exact = run_found c.args.login.now c.args.lines.now c.args.steps.now c.args.answers.now c.args.tapes.now c.in_ok-transcript.transcript c.in_ok-plans.plans c.earlier.result c.earlier.ensures c.in_ok-transcript.ensures.exact
      c.in_ok-plans.ensures.exact;
}
