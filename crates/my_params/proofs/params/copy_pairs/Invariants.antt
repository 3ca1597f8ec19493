use Rattle.std.proofs.Common.{◌≡◌, take}
use Rattle.my_params.proofs.params.copy_pairs.Given as goal

abbrev pub invariant-loop-name : goal.invariant-loop-name
invariant-loop-name l = l.copies.items ≡ take l.name-index l.pairs
