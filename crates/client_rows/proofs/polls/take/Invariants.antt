use Rattle.std.proofs.Common.{◌≡◌}
use Rattle.my_calls.specs.Streams.{open_at}
use Rattle.client_rows.proofs.polls.take.Given as goal

abbrev pub invariant-polls : goal.invariant-polls
invariant-polls g l = l.conn.pending ≡ open_at l.call.stage
