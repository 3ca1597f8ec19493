use Rattle.std.proofs.Common.{sym, ◌∙◌}
use Rattle.my_steps.proofs.Working.Cancelling.{cancelled, not_cancelled}
use Rattle.my_steps.proofs.polls.cancel_there.Goals as goal

pub returns-in-None : goal.returns-in-None
returns-in-None g c = λ login w. not_cancelled g.L.Link.looks login c.args.conn.now c.unused.result.outcome c.unused.result.uses.items (sym c.open_call.ensures ∙ c.in-None.is) c.unused.ensures.outcome c.unused.ensures.uses w

pub returns-in-Some : goal.returns-in-Some
returns-in-Some g c = λ login w. cancelled g.L.Link.looks login c.args.conn.now c.cancel_call.new.self c.unused-in-Some.result.outcome c.unused-in-Some.result.uses.items c.cancel_call.ensures c.unused-in-Some.ensures.outcome c.unused-in-Some.ensures.uses w
