use Rattle.my_frame.proofs.Fronts.WholeHeads.{rest_is_shorter}
use Rattle.my_frame.proofs.laws.reading_takes_bytes.Goals as goal

pub returns : goal.returns
returns c = λ bytes p rest n limit next. rest_is_shorter n limit bytes p rest next
