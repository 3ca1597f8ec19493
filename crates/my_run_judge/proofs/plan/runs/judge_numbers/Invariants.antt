use Rattle.std.proofs.Common.{◌≤◌, ◌-◌}
use Rattle.my_run_judge.specs.Transcripts.{IsFoundBelow}
use Rattle.my_run_judge.specs.Plan.Runs.{DialsAt}
use Rattle.my_run_judge.proofs.plan.runs.judge_numbers.Given as goal

abbrev pub invariant-numbers : goal.invariant-numbers
invariant-numbers l = record {
  within : l.number ≤ l.most;
  found : IsFoundBelow (DialsAt l.lines l.steps l.answers) l.number l.least;
}

abbrev pub decreases-numbers : goal.decreases-numbers
decreases-numbers l = l.most - l.number
