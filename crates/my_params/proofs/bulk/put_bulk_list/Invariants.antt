use Rattle.std.proofs.Common.{◌≡◌, ◌++◌, take}
use Rattle.my_params.specs.BulkBody.{list_bytes}
use Rattle.my_params.proofs.bulk.put_bulk_list.Given as goal

abbrev pub invariant-loop-value : goal.invariant-loop-value
invariant-loop-value l = l.out.items ≡ l.fn.out.items ++ list_bytes (take l.value-index l.values)
