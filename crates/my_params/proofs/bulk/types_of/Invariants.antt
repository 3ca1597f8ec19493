use Rattle.std.proofs.Common.{◌≡◌, map, take}
use Rattle.my_params.specs.Sending.{type_of}
use Rattle.my_params.proofs.bulk.types_of.Given as goal

abbrev pub invariant-loop-value : goal.invariant-loop-value
invariant-loop-value l = l.types.items ≡ map type_of (take l.value-index l.values)
