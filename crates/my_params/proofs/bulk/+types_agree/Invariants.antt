use Rattle.std.proofs.Common.{length}
use Rattle.my_params.proofs.bulk.+types_agree.Given as goal

abbrev pub decreases-types_agree : goal.decreases-types_agree
decreases-types_agree l = length l.types.now
