use Rattle.std.proofs.Common.{◌≡◌, ◌++◌, drop}
use Rattle.my_params.specs.LongData.{long_data, long_data_from}
use Rattle.my_params.proofs.ahead.add_values.Given as goal

abbrev pub invariant-loop-value : goal.invariant-loop-value
invariant-loop-value l = (l.place ≡ l.value-index)
    × (l.payloads ++ long_data_from l.id l.value-index (drop l.value-index l.values) ≡ l.fn.payloads ++ long_data l.id l.values)
