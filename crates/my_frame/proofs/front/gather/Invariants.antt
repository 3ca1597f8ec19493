use Rattle.std.proofs.Common.{length}
use Rattle.my_frame.proofs.Fronts.Gathering.{Gathered}
use Rattle.my_frame.proofs.front.gather.Given as goal

abbrev pub invariant-chunks : goal.invariant-chunks
invariant-chunks l = Gathered l.bytes l.rest l.payload.items

abbrev pub decreases-chunks : goal.decreases-chunks
decreases-chunks l = length l.rest
