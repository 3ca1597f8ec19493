use Rattle.std.proofs.Common.{refl, subst}
use Rattle.my_conn.specs.Connected.{ConnectIs}
use Rattle.my_conn.specs.declared.connecting.Connected.TheVariants as connecteds
use Rattle.my_pool_requests.proofs.Being.{made-fit, stays-being}
use Rattle.my_pool_requests.proofs.Boxing.{made-boxed, made-fits, pends-boxed, pends-fits}
use Rattle.my_pool_requests.proofs.making.make_on.Goals as goal

pub returns-in-Pending-clause-makes : goal.returns-in-Pending-clause-makes
returns-in-Pending-clause-makes g c =
    pends-boxed g.L.Link.looks (g.A.AfterConnect.texts c.args.aid.now) c.args.now c.args.making c.poll-connected.result.1 c.in-Pending.making c.pending.result
    (subst (λ x. ConnectIs g.L.Link.looks (g.A.AfterConnect.texts c.args.aid.now) c.args.now c.args.making c.poll-connected.result.1 x) c.in-Pending.is c.poll-connected.ensures.connects) c.pending.ensures

pub returns-in-Made-clause-makes : goal.returns-in-Made-clause-makes
returns-in-Made-clause-makes g c =
    made-boxed g.L.Link.looks (g.A.AfterConnect.texts c.args.aid.now) c.args.now c.args.making c.poll-connected.result.1 c.in-Made.conn c.good.result
    (subst (λ x. ConnectIs g.L.Link.looks (g.A.AfterConnect.texts c.args.aid.now) c.args.now c.args.making c.poll-connected.result.1 x) c.in-Made.is c.poll-connected.ensures.connects) c.good.ensures

pub returns-in-Failed-clause-makes : goal.returns-in-Failed-clause-makes
returns-in-Failed-clause-makes g c = record {
  connected = connecteds.Failed c.in-Failed.left;
  met = c.poll-connected.result.1;
  connects = subst (λ x. ConnectIs g.L.Link.looks (g.A.AfterConnect.texts c.args.aid.now) c.args.now c.args.making c.poll-connected.result.1 x) c.in-Failed.is c.poll-connected.ensures.connects;
  comes = refl;
}

pub returns-in-Pending-clause-fits : goal.returns-in-Pending-clause-fits
returns-in-Pending-clause-fits g c =
    pends-fits c.in-Pending.making c.pending.result
    (stays-being g.L.Link.looks (g.A.AfterConnect.texts c.args.aid.now) c.args.now c.args.making c.in-Pending.making c.poll-connected.result.1 c.requires
    (subst (λ x. ConnectIs g.L.Link.looks (g.A.AfterConnect.texts c.args.aid.now) c.args.now c.args.making c.poll-connected.result.1 x) c.in-Pending.is c.poll-connected.ensures.connects))
    c.pending.ensures

pub returns-in-Made-clause-fits : goal.returns-in-Made-clause-fits
returns-in-Made-clause-fits g c =
    made-fits c.in-Made.conn c.good.result
    (made-fit g.L.Link.looks (g.A.AfterConnect.texts c.args.aid.now) c.args.now c.args.making c.in-Made.conn c.poll-connected.result.1 c.requires
    (subst (λ x. ConnectIs g.L.Link.looks (g.A.AfterConnect.texts c.args.aid.now) c.args.now c.args.making c.poll-connected.result.1 x) c.in-Made.is c.poll-connected.ensures.connects))
    c.good.ensures
