-- The first fault is that of the replies that are left.
use Rattle.std.proofs.Common.{◌≡◌, drop}
use Rattle.my_server.specs.Faults.{reply_fault}
use Rattle.my_server.proofs.check.check_replies.Given as goal

abbrev pub invariant-loop-index : goal.invariant-loop-index
invariant-loop-index l = reply_fault l.index (drop l.index l.replies) ≡ reply_fault 0 l.replies
