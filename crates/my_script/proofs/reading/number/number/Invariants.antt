use Rattle.std.proofs.Common.{◌≡◌, drop}
use Rattle.my_script.specs.Number.{number_on}
use Rattle.my_script.proofs.reading.number.number.Given as goal

abbrev pub invariant-loop-byte : goal.invariant-loop-byte
invariant-loop-byte l = number_on l.n (drop l.byte-index l.word) ≡ number_on 0 l.word
