use Rattle.my_frame.proofs.Growing.{front_grows}
use Rattle.my_frame.proofs.laws.front_stays.Goals as goal

pub returns : goal.returns
returns c = λ bytes more n limit. front_grows n limit bytes more
