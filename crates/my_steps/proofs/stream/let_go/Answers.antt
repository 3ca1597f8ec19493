use Rattle.std.proofs.Common.{sym, ◌∙◌}
use Rattle.my_steps.proofs.Working.Streaming.{let_go_did, let_go_refused}
use Rattle.my_steps.proofs.stream.let_go.Goals as goal

pub returns-in-Some : goal.returns-in-Some
returns-in-Some g c = λ login w. let_go_refused g.L.Link.looks c.args.number login c.args.conn.now c.in-Some.field-0 c.unused.result.outcome c.unused.result.uses.items (sym c.open_call.ensures ∙ c.in-Some.is) c.unused.ensures.outcome c.unused.ensures.uses w

pub returns-in-None : goal.returns-in-None
returns-in-None g c = λ login w. let_go_did g.L.Link.looks c.args.number login c.args.conn.now c.unused-in-None.result.outcome c.unused-in-None.result.uses.items (sym c.open_call.ensures ∙ c.in-None.is) c.unused-in-None.ensures.outcome c.unused-in-None.ensures.uses w
