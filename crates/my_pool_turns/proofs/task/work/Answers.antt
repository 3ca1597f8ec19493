use Rattle.std.proofs.Common.{◌≡◌, None, Some, ap, sym, ◌∙◌}
use Rattle.my_pool.specs.Fit.{IsStill}
use Rattle.my_pool_turns.proofs.Working.{pends, answers-still, fails-still, ends-leave}
use Rattle.my_pool_turns.proofs.task.work.Goals as goal

pub returns-in-Pending-clause-leaves : goal.returns-in-Pending-clause-leaves
returns-in-Pending-clause-leaves g c =
    c.poll_call-after.ensures.call.pending ∙ pends c.kind.result c.poll_call-after.result.0 (sym c.state_of.ensures ∙ c.in-Pending.is)
    ∙ ap Some c.kind.ensures

pub returns-in-Done-clause-leaves : goal.returns-in-Done-clause-leaves
returns-in-Done-clause-leaves g c =
    let still : IsStill c.poll_call-after.new.self.conn = c.poll_call-after.ensures.call.pending
    ∙ answers-still c.kind.result c.poll_call-after.result.0 (sym c.state_of.ensures ∙ c.in-Done.is) in
    ends-leave c.args.task c.poll_call-after.new.self.conn c.ended.result still (rw c.conn-in-Done.ensures at c.ended.ensures)

pub returns-in-Failed-clause-leaves : goal.returns-in-Failed-clause-leaves
returns-in-Failed-clause-leaves g c =
    c.poll_call-after.ensures.call.pending
    ∙ fails-still c.kind.result c.poll_call-after.result.0 (sym c.state_of.ensures ∙ c.in-Failed.is)
