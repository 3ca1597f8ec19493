use Rattle.my_frame.proofs.Fronts.{blamed}
use Rattle.my_frame.proofs.laws.fault_is_found.Goals as goal

pub returns : goal.returns
returns c = λ bytes n limit f. blamed bytes n 0 limit f
