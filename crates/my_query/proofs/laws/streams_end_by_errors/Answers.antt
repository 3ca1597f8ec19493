use Rattle.my_query.proofs.Trying as law
use Rattle.my_query.proofs.laws.streams_end_by_errors.Goals as goal

pub returns : goal.returns
returns g c = law.streams_are_tried _ _
