use Rattle.my_steps.specs.Connecting.{Settles}
use Rattle.my_steps.proofs.Working.Connecting.{shaken}
use Rattle.my_steps.proofs.Working.Numbers.{ok_at}
use Rattle.my_steps.proofs.connecting.shake.Goals as goal

pub returns-in-Ok-clause-shakes : goal.returns-in-Ok-clause-shakes
returns-in-Ok-clause-shakes g c =
    let u = c.poll-connected in
    let v = c.settle-slot in
    shaken g.L.Link.looks c.args.number c.args.now c.args.conn u.result.1 u.result.0 v.result.0 c.in-Ok.outcome u.ensures.connects (ok_at v.result.1 c.in-Ok.outcome (Settles c.args.number u.result.0 v.result.0) c.in-Ok.is v.ensures.settles)
