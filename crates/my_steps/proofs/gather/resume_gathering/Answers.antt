use Rattle.std.proofs.Common.{◌≡◌, Some, sym, ◌∙◌, refl}
use Rattle.std.proofs.lemmas.Result.{IfOk-weaker}
use Rattle.my_steps.specs.declared.slot.Slot.TheVariants.{Gathering}
use Rattle.my_steps.proofs.Working.Polling.{none_pending}
use Rattle.my_steps.proofs.Working.Resuming.{gathering_resumed}
use Rattle.my_steps.proofs.gather.resume_gathering.Goals as goal

pub returns-in-None-clause-did : goal.returns-in-None-clause-did
returns-in-None-clause-did g c = λ aim login w. none_pending c.args.conn.pending w.kind (sym c.open_call.ensures ∙ c.in-None.is) w.pending

pub returns-in-Some-clause-did : goal.returns-in-Some-clause-did
returns-in-Some-clause-did g c =
    let op : c.args.conn.pending ≡ Some c.in-Some.kind = sym c.open_call.ensures ∙ c.in-Some.is in
    IfOk-weaker c.gather.result.1 _ _ (λ d f aim login w. gathering_resumed g.L.Link.looks login aim c.args.number c.args.conn c.in-Some.kind (Gathering c.args.conn c.args.rows) c.gather.result.0 c.args.rows.items d.outcome d.uses.items refl op (f login) w) c.gather.ensures.did
