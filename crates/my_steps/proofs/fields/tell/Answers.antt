use Rattle.std.proofs.Common.{sym, ◌∙◌}
use Rattle.my_steps.proofs.Working.Cancelling.{fields_did, no_fields}
use Rattle.my_steps.proofs.fields.tell.Goals as goal

pub returns-in-Some : goal.returns-in-Some
returns-in-Some g c = λ login w. no_fields g.L.Link.looks login c.args.conn.now c.in-Some.field-0 c.unused.result.outcome c.unused.result.uses.items (sym c.open_call.ensures ∙ c.in-Some.is) c.unused.ensures.outcome c.unused.ensures.uses w

pub returns-in_ok-fields-in-None : goal.returns-in_ok-fields-in-None
returns-in_ok-fields-in-None g c = λ login w. fields_did g.L.Link.looks login c.args.conn.now c.in_ok-fields-in-None.fields c.unused-in-None.result.outcome c.unused-in-None.result.uses.items (sym c.open_call.ensures ∙ c.in-None.is) c.in_ok-fields-in-None.ensures c.unused-in-None.ensures.outcome c.unused-in-None.ensures.uses w
