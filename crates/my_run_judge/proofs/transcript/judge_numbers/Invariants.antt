use Rattle.std.proofs.Common.{◌≤◌, ◌+◌, ◌-◌}
use Rattle.my_run_judge.specs.Transcripts.{FoundAt, IsFoundBelow}
use Rattle.my_run_judge.proofs.transcript.judge_numbers.Given as goal

abbrev pub invariant-numbers : goal.invariant-numbers
invariant-numbers l = record {
  within : l.number ≤ l.most + 1;
  found : IsFoundBelow (FoundAt l.login l.steps l.answers l.tapes) l.number l.least;
}

abbrev pub decreases-numbers : goal.decreases-numbers
decreases-numbers l = l.most + 1 - l.number
