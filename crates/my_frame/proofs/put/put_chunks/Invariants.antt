use Rattle.std.proofs.Common.{length}
use Rattle.my_frame.proofs.Putting.{Puts}
use Rattle.my_frame.proofs.put.put_chunks.Given as goal

abbrev pub invariant-chunks : goal.invariant-chunks
invariant-chunks l = Puts l.fn.dst.items l.dst.items l.rest l.payload l.number l.next l.dst.spare

abbrev pub decreases-chunks : goal.decreases-chunks
decreases-chunks l = length l.rest
