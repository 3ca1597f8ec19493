use Rattle.std.proofs.Common.{◌+◌, ◌-◌, ◌<◌}
use Rattle.my_frame.specs.declared.limits.TheConstants.{MOST_TAKEN}
use Rattle.my_client.specs.Calls.{MayPoll}
use Rattle.my_client.specs.declared.handshake.TheConstants.{TOO_LONG}
use Rattle.my_conn.proofs.Driving.{DriveSoFar}
use Rattle.my_conn.proofs.conn.Conn.drive.Given as goal

abbrev pub invariant-polls : goal.invariant-polls
invariant-polls g l = record {
  may : MayPoll l.fn.kind l.next l.self.pending;
  so : DriveSoFar g.L.Link.looks l.fn.call l.next l.fn.self l.self l.spent;
  room : l.spent < TOO_LONG + MOST_TAKEN;
}

abbrev pub decreases-polls : goal.decreases-polls
decreases-polls g l = (TOO_LONG + MOST_TAKEN) - l.spent
