use Rattle.std.proofs.Common.{refl}
use Rattle.std.proofs.lemmas.Result.{IfOk-weaker}
use Rattle.my_script.specs.declared.action.Work.TheVariants as works
use Rattle.my_steps.specs.declared.slot.Slot.TheVariants.{Gathering}
use Rattle.my_steps.proofs.Working.{gathering_refused, work_is}
use Rattle.my_steps.proofs.work.work_gathering.Goals as goal

pub returns-in-Poll-clause-did : goal.returns-in-Poll-clause-did
returns-in-Poll-clause-did g c = IfOk-weaker c.resume_gathering.result.1 _ _ (λ d f login w. work_is g.L.Link.looks login c.args.number c.args.work.now (works.Poll c.in-Poll.field-0) d.outcome d.uses.items (Gathering c.args.conn c.args.rows) c.resume_gathering.result.0 c.in-Poll.is (f c.in-Poll.field-0 login w)) c.resume_gathering.ensures.did

pub returns-in-Cancel-clause-did : goal.returns-in-Cancel-clause-did
returns-in-Cancel-clause-did g c =
    let u = c.cancel_gathering-slot in
    λ login w. work_is g.L.Link.looks login c.args.number c.args.work.now works.Cancel u.result.1.outcome u.result.1.uses.items (Gathering c.args.conn c.args.rows) u.result.0 c.in-Cancel.is (u.ensures.did login w)

pub returns-in-Begin-clause-did : goal.returns-in-Begin-clause-did
returns-in-Begin-clause-did g c = λ login w. gathering_refused g.L.Link.looks login c.args.number c.args.work.now c.args.conn (Gathering c.args.conn c.args.rows) c.args.rows.items c.unused.result.outcome c.unused.result.uses.items refl w c.in-Begin.is c.unused.ensures.outcome c.unused.ensures.uses w
