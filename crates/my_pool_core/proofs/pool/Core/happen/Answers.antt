use Rattle.std.proofs.Common.{sym, ◌∙◌}
use Rattle.my_pool_core.proofs.Replaying.{replay-begins, replay-on}
use Rattle.my_pool_core.proofs.pool.Core.happen.Goals as goal

pub loop-event-init : goal.loop-event-init
loop-event-init c = replay-begins c.args.self.now c.args.events.now

pub apply-requires : goal.apply-requires
apply-requires c = sym c.may.ensures ∙ c.if-not-may.false

pub loop-event-preserved : goal.loop-event-preserved
loop-event-preserved c = replay-on c.args.self.now c.loop-event.self c.apply.new.self c.args.events.now c.loop-event.event-index c.loop-event-test.true c.loop-event.invariant (sym c.may.ensures ∙ c.if-not-may.false) c.in_ok-apply.ensures.state
