use Rattle.my_frame.proofs.Meanings.{front_means}
use Rattle.my_frame.proofs.laws.front_is_sound.Goals as goal

pub returns : goal.returns
returns c = λ bytes n limit. front_means n limit bytes
