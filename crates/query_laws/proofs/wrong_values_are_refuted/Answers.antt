use Rattle.query_laws.proofs.Trying as law
use Rattle.query_laws.proofs.wrong_values_are_refuted.Goals as goal

pub returns : goal.returns
returns c = law.are_tried
