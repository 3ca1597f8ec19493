use Rattle.my_steps.proofs.Working.Cancelling.{connect_cancelled}
use Rattle.my_steps.proofs.Working.Polling.{none_taped}
use Rattle.my_steps.proofs.connecting.cancel_connect.Goals as goal

pub returns-in-Some-clause-did : goal.returns-in-Some-clause-did
returns-in-Some-clause-did g c =
    let u = c.cancel-tape in
    λ login w. connect_cancelled g.L.Link.looks login c.args.conn u.result.0 c.in-Some.tape u.result.1 c.unused-did.result.outcome c.unused-did.result.uses.items u.ensures.cancels c.in-Some.is u.ensures.link c.unused-did.ensures.outcome c.unused-did.ensures.uses w

pub returns-in-None-clause-did : goal.returns-in-None-clause-did
returns-in-None-clause-did g c =
    let u = c.cancel-tape in
    λ login w. none_taped u.result.0 c.args.conn.tape c.in-None.is u.ensures.keeps w.shakes.taped
