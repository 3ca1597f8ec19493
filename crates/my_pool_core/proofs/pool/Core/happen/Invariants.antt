use Rattle.std.proofs.Common.{drop}
use Rattle.my_pool_core.proofs.Replaying.{IsReplaying}
use Rattle.my_pool_core.proofs.pool.Core.happen.Given as goal

abbrev pub invariant-loop-event : goal.invariant-loop-event
invariant-loop-event l = IsReplaying l.initial.self l.self l.events (drop l.event-index l.events)
