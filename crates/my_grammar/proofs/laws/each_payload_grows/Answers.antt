-- One payload more.
use Rattle.std.proofs.Common.{refl}
use Rattle.my_grammar.specs.Cut.{kind_of}
use Rattle.my_grammar.proofs.Growth.{grows}
use Rattle.my_grammar.proofs.laws.each_payload_grows.Goals as goal

pub returns : goal.returns
returns c = λ t p good short fits. grows t (kind_of t p) p refl good short fits
