use Rattle.my_query.proofs.Trying as law
use Rattle.my_query.proofs.laws.left_sets_are_known.Goals as goal

pub returns : goal.returns
returns g c = law.empty_is_tried
