use Rattle.std.proofs.Common.{arith}
use Rattle.my_run_judge.proofs.Numbers.{below_more}
use Rattle.my_run_judge.specs.Plan.Runs.{DialsAt}
use Rattle.my_run_judge.proofs.plan.runs.judge_numbers.Goals as goal

pub numbers-preserved : goal.numbers-preserved
numbers-preserved c = record {
  within = omega arith;
  found = below_more (DialsAt c.args.lines.now c.args.steps.now c.args.answers.now) c.numbers.number c.numbers.least c.in_ok-found.found c.earlier-least.result
      c.earlier-least.ensures c.numbers.invariant.found c.in_ok-found.ensures;
}
