use Rattle.my_frame.proofs.Fronts.{found}
use Rattle.my_frame.proofs.laws.payload_is_found.Goals as goal

pub returns : goal.returns
returns c = found
