use Rattle.std.proofs.lemmas.Result.{IfOk-weaker}
use Rattle.my_script.specs.declared.action.Work.TheVariants as works
use Rattle.my_steps.specs.declared.slot.Slot.TheVariants.{Connecting}
use Rattle.my_steps.proofs.Working.Resuming.{connect_resumed}
use Rattle.my_steps.proofs.Working.{connecting_refused, work_is}
use Rattle.my_steps.proofs.work.work_connecting.Goals as goal

pub returns-in-Poll-clause-did : goal.returns-in-Poll-clause-did
returns-in-Poll-clause-did g c = IfOk-weaker c.poll_connect.result.1 _ _ (λ d f login w. work_is g.L.Link.looks login c.args.number c.args.work.now (works.Poll c.in-Poll.field-0) d.outcome d.uses.items (Connecting c.args.conn) c.poll_connect.result.0 c.in-Poll.is (connect_resumed g.L.Link.looks login c.in-Poll.field-0 c.args.number c.args.conn c.poll_connect.result.0 d f w)) c.poll_connect.ensures.did

pub returns-in-Cancel-clause-did : goal.returns-in-Cancel-clause-did
returns-in-Cancel-clause-did g c =
    let u = c.cancel_connect-slot in
    λ login w. work_is g.L.Link.looks login c.args.number c.args.work.now works.Cancel u.result.1.outcome u.result.1.uses.items (Connecting c.args.conn) u.result.0 c.in-Cancel.is (u.ensures.did login w)

pub returns-in-Begin-clause-did : goal.returns-in-Begin-clause-did
returns-in-Begin-clause-did g c = λ login w. connecting_refused g.L.Link.looks login c.args.number c.args.work.now c.args.conn c.unused.result.outcome c.unused.result.uses.items c.in-Begin.is c.unused.ensures.outcome c.unused.ensures.uses w
