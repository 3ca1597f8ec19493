-- What is read is in the bytes.
use Rattle.my_grammar.proofs.Sound.{sound}
use Rattle.my_grammar.proofs.laws.reading_is_sound.Goals as goal

pub returns : goal.returns
returns c = λ t bytes are fits. sound t bytes are fits
