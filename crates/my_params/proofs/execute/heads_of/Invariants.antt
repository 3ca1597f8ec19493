use Rattle.std.proofs.Common.{◌≡◌, map, take}
use Rattle.my_params.specs.Parameters.{sent_head}
use Rattle.my_params.proofs.execute.heads_of.Given as goal

abbrev pub invariant-loop-value : goal.invariant-loop-value
invariant-loop-value l = l.heads.items ≡ map sent_head (take l.value-index l.values)
