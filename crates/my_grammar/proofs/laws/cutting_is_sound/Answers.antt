-- What is cut is in the bytes.
use Rattle.my_grammar.proofs.Sound.{cut_is_sound}
use Rattle.my_grammar.proofs.laws.cutting_is_sound.Goals as goal

pub returns : goal.returns
returns c = λ ts bytes are. cut_is_sound ts bytes are
