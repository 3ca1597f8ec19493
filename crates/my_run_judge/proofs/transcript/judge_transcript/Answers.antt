use Rattle.std.proofs.Common.{◌+◌, ℕ, subst, sym}
use Rattle.std.specs.Bool.{Decides}
use Rattle.my_run_judge.specs.declared.judging.Found.{Found}
use Rattle.my_run_judge.specs.Transcripts.{AreTapes, FoundAt, IsFoundBelow, IsFoundIn}
use Rattle.my_run_judge.proofs.Numbers.{found_in}
use Rattle.my_run_judge.proofs.transcript.judge_transcript.Goals as goal

pub returns : goal.returns
returns c = record {
  exact = subst (λ (f : Found). IsFoundIn c.args.login.now c.args.steps.now c.args.answers.now c.args.tapes.now f) (sym c.with_tapes.ensures)
      (found_in c.args.login.now c.args.steps.now c.args.answers.now c.args.tapes.now c.in_ok-found.found c.are_tapes.result
      (subst (λ (n : ℕ). IsFoundBelow (FoundAt c.args.login.now c.args.steps.now c.args.answers.now c.args.tapes.now) (n + 1) c.in_ok-found.found) c.dialed_in-most.ensures.count c.in_ok-found.ensures)
      (subst (λ (n : ℕ). Decides c.are_tapes.result (AreTapes 0 n c.args.tapes.now)) c.dialed_in-most.ensures.count c.are_tapes.ensures));
}
