use Rattle.my_client.specs.Calls.{MayPoll}
use Rattle.client_rows.proofs.polls.play.Given as goal

abbrev pub invariant-polls : goal.invariant-polls
invariant-polls g l = MayPoll l.call.kind l.call.call l.conn.pending
