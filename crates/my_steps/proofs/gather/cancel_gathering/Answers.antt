use Rattle.std.proofs.Common.{sym, ◌∙◌, refl}
use Rattle.my_steps.specs.declared.slot.Slot.TheVariants.{Gathering}
use Rattle.my_steps.proofs.Working.Cancelling.{gathering_cancelled}
use Rattle.my_steps.proofs.Working.Polling.{none_pending}
use Rattle.my_steps.proofs.gather.cancel_gathering.Goals as goal

pub returns-in-None-clause-did : goal.returns-in-None-clause-did
returns-in-None-clause-did g c = λ login w. none_pending c.args.conn.pending w.kind (sym c.open_call.ensures ∙ c.in-None.is) w.pending

pub returns-in-Some-clause-did : goal.returns-in-Some-clause-did
returns-in-Some-clause-did g c = λ login w. gathering_cancelled g.L.Link.looks login c.args.conn c.cancel_call.new.self (Gathering c.args.conn c.args.rows) c.args.rows.items c.unused-in-Some.result.outcome c.unused-in-Some.result.uses.items refl c.cancel_call.ensures c.unused-in-Some.ensures.outcome c.unused-in-Some.ensures.uses w
