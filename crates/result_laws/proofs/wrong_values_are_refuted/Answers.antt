use Rattle.result_laws.proofs.Trying as law
use Rattle.result_laws.proofs.wrong_values_are_refuted.Goals as goal

pub returns : goal.returns
returns g c = law.closing_is_tried
