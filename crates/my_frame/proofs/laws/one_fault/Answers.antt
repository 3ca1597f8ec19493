use Rattle.my_frame.proofs.Fronts.{one_fault as blamed_once}
use Rattle.my_frame.proofs.laws.one_fault.Goals as goal

pub returns : goal.returns
returns c = blamed_once
