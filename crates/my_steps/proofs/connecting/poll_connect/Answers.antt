use Rattle.my_steps.specs.Connecting.{EachShakes}
use Rattle.my_steps.proofs.Working.Connecting.{next_joins}
use Rattle.my_steps.proofs.Working.Numbers.{did_ok, ok_at}
use Rattle.my_steps.proofs.connecting.poll_connect.Goals as goal

pub returns-in-Ok-clause-did : goal.returns-in-Ok-clause-did
returns-in-Ok-clause-did g c =
    let v = c.shake-slot in
    let shaken = ok_at v.result.1 (c.in-Ok.outcome, c.in-Ok.met) (λ r. EachShakes g.L.Link.looks c.args.number c.args.conn v.result.0 r.0 r.1) c.in-Ok.is v.ensures.shakes in
    did_ok c.used_once.result _ _ _ c.used_once.ensures.outcome c.used_once.ensures.uses
    (λ d e f. next_joins g.L.Link.looks c.args.number c.args.conn v.result.0 c.in-Ok.outcome c.in-Ok.met d shaken e f)
