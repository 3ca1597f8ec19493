use Rattle.std.proofs.Common.{◌≡◌, ◌-◌, ◌^◌, min, take}
use Rattle.my_params.specs.Sending.{values_len}
use Rattle.my_params.proofs.sending.values_len.Given as goal

abbrev pub invariant-loop-value : goal.invariant-loop-value
invariant-loop-value l = l.len ≡ min (values_len (take l.value-index l.values)) (2 ^ 64 - 1)
