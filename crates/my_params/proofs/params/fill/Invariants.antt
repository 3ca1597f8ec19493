use Rattle.std.proofs.Common.{◌≡◌, drop}
use Rattle.my_params.specs.ParamValues.{filled}
use Rattle.my_params.proofs.Filling.{after_values}
use Rattle.my_params.proofs.params.fill.Given as goal

abbrev pub invariant-loop-name : goal.invariant-loop-name
invariant-loop-name l = after_values l.values.items (filled (drop l.name-index l.names) l.pairs) ≡ filled l.names l.pairs
