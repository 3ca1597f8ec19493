use Rattle.my_steps.specs.Connecting.{EachShakes}
use Rattle.my_steps.proofs.Working.Connecting.{first_joins}
use Rattle.my_steps.proofs.Working.Numbers.{did_ok, ok_at}
use Rattle.my_steps.proofs.connecting.first_poll.Goals as goal

pub returns-in-Ok-clause-did : goal.returns-in-Ok-clause-did
returns-in-Ok-clause-did g c =
    let v = c.shake-slot in
    let shaken = ok_at v.result.1 (c.in-Ok.outcome, c.in-Ok.met) (λ r. EachShakes g.L.Link.looks c.args.number c.args.conn v.result.0 r.0 r.1) c.in-Ok.is v.ensures.shakes in
    did_ok c.used_twice.result _ _ _ c.used_twice.ensures.outcome c.used_twice.ensures.uses
    (λ d e f. first_joins g.L.Link.looks c.args.number c.args.conn v.result.0 c.in-Ok.outcome c.in-Ok.met c.nothing.result d shaken c.nothing.ensures e f)
