use Rattle.my_frame.proofs.Fronts.{one_reading as read_once}
use Rattle.my_frame.proofs.laws.one_reading.Goals as goal

pub returns : goal.returns
returns c = read_once
