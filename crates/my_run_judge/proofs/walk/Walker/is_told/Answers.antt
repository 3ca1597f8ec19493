use Rattle.std.proofs.Common.{subst}
use Rattle.std.specs.Bool.{Decides}
use Rattle.my_reading.specs.declared.facts.Facts.{Facts}
use Rattle.my_run_judge.specs.Does.{StandsAt}
use Rattle.my_run_judge.specs.Lines.{IsToldBy}
use Rattle.my_run_judge.proofs.walk.Walker.is_told.Goals as goal

pub returns : goal.returns
unfolding StandsAt
returns c = λ login p at. subst (λ (f : Facts). Decides c.is_told_by.result (IsToldBy f c.args.outcome.now)) (c.facts.ensures login p at) c.is_told_by.ensures
