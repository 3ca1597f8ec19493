use Rattle.std.proofs.Common.{length}
use Rattle.my_frame.proofs.Fronts.Scanning.{Scanned}
use Rattle.my_frame.proofs.scan.scan_front.Given as goal

abbrev pub invariant-chunks : goal.invariant-chunks
invariant-chunks l = Scanned l.bytes l.rest l.number l.expected l.before l.limit

abbrev pub decreases-chunks : goal.decreases-chunks
decreases-chunks l = length l.rest
