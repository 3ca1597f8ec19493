use Rattle.std.proofs.Common.{◌≡◌, drop}
use Rattle.std.specs.List.{list_any}
use Rattle.my_params.specs.ParamValues.{is_float}
use Rattle.my_params.proofs.params.any_float.Given as goal

abbrev pub invariant-loop-value : goal.invariant-loop-value
invariant-loop-value l = list_any is_float (drop l.value-index l.values) ≡ list_any is_float l.values
