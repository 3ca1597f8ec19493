use Rattle.std.proofs.Common.{◌≡◌, ◌++◌, length}
use Rattle.my_params.specs.BulkBody.{joined_types}
use Rattle.my_params.proofs.bulk.join_types.Given as goal

abbrev pub invariant-loop-columns : goal.invariant-loop-columns
invariant-loop-columns l = l.all.items ++ joined_types l.columns l.others ≡ joined_types l.types l.values

abbrev pub decreases-loop-columns : goal.decreases-loop-columns
decreases-loop-columns l = length l.columns
