use Rattle.my_run_judge.specs.Does.{StandsAt}
use Rattle.my_run_judge.proofs.walk.Walker.sent_len.Goals as goal

pub returns : goal.returns
unfolding StandsAt
returns c = c.sent_len.ensures
