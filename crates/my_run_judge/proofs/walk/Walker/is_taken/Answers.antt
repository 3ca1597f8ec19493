use Rattle.my_run_judge.specs.Does.{StandsAt}
use Rattle.my_run_judge.proofs.walk.Walker.is_taken.Goals as goal

pub returns : goal.returns
unfolding StandsAt
returns c = c.is_taken.ensures
