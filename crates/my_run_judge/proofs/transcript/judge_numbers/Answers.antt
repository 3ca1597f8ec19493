use Rattle.std.proofs.Common.{arith}
use Rattle.my_run_judge.specs.Transcripts.{FoundAt}
use Rattle.my_run_judge.proofs.Numbers.{below_more}
use Rattle.my_run_judge.proofs.transcript.judge_numbers.Goals as goal

pub numbers-preserved : goal.numbers-preserved
numbers-preserved c = record {
  within = omega arith;
  found = below_more (FoundAt c.args.login.now c.args.steps.now c.args.answers.now c.args.tapes.now) c.numbers.number c.numbers.least c.in_ok-found.found c.earlier-least.result
      c.earlier-least.ensures c.numbers.invariant.found c.in_ok-found.ensures;
}
