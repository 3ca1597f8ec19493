use Rattle.std.proofs.Common.{subst}
use Rattle.std.proofs.lemmas.Result.{IfOk-weaker}
use Rattle.my_session.specs.Login.{login_of}
use Rattle.my_steps.specs.declared.slot.Slot.{Slot}
use Rattle.my_steps.specs.declared.slot.Slot.TheVariants.{Connecting, There, Gathering}
use Rattle.my_steps.specs.Keeps.{IsAwaited}
use Rattle.my_steps.proofs.Working.{gone_did, ended_did, there_did, in_held}
use Rattle.my_steps.proofs.work.work_on.Goals as goal

pub returns-in-There-clause-did : goal.returns-in-There-clause-did
returns-in-There-clause-did g c = IfOk-weaker c.work_conn.result.1 _ _ (λ d f plans awaited w. there_did g.N.L.Link.looks (login_of c.args.opts.now) plans (g.N.Dialer.seen c.args.world.now).plans c.args.number c.args.work d.outcome d.uses.items c.args.slot (There c.in-There.conn) c.work_conn.result.0 c.in-There.is tt c.work_conn.ensures.linked w (f (login_of c.args.opts.now))) c.work_conn.ensures.did

pub returns-in-Connecting-clause-did : goal.returns-in-Connecting-clause-did
returns-in-Connecting-clause-did g c = IfOk-weaker c.work_connecting-worked.result.1 _ _ (λ d f plans awaited w. there_did g.N.L.Link.looks (login_of c.args.opts.now) plans (g.N.Dialer.seen c.args.world.now).plans c.args.number c.args.work d.outcome d.uses.items c.args.slot (Connecting c.in-Connecting.conn) c.work_connecting-worked.result.0 c.in-Connecting.is tt c.work_connecting-worked.ensures.linked w (f (login_of c.args.opts.now))) c.work_connecting-worked.ensures.did

pub returns-in-Gathering-clause-did : goal.returns-in-Gathering-clause-did
returns-in-Gathering-clause-did g c = IfOk-weaker c.work_gathering-worked.result.1 _ _ (λ d f plans awaited w. there_did g.N.L.Link.looks (login_of c.args.opts.now) plans (g.N.Dialer.seen c.args.world.now).plans c.args.number c.args.work d.outcome d.uses.items c.args.slot (Gathering c.in-Gathering.conn c.in-Gathering.rows) c.work_gathering-worked.result.0 c.in-Gathering.is tt c.work_gathering-worked.ensures.linked w (f (login_of c.args.opts.now))) c.work_gathering-worked.ensures.did

pub returns-in-Held-clause-did : goal.returns-in-Held-clause-did
returns-in-Held-clause-did g c = IfOk-weaker c.work_held-worked.result.1 _ _ (λ d f plans awaited w. in_held g.N.L.Link.looks (login_of c.args.opts.now) plans (g.N.Dialer.seen c.args.world.now).plans (g.N.Dialer.seen c.work_held-worked.new.world).plans c.args.number c.args.work d.outcome d.uses.items c.args.slot c.work_held-worked.result.0 c.in-Held.is (f plans (subst (λ (s : Slot g.row.N-L.Denot). IsAwaited plans (g.N.Dialer.seen c.args.world.now).plans c.args.number s) c.in-Held.is awaited) tt)) c.work_held-worked.ensures.did

pub returns-in-Gone-clause-did : goal.returns-in-Gone-clause-did
returns-in-Gone-clause-did g c = λ plans awaited w. gone_did g.N.L.Link.looks (login_of c.args.opts.now) plans (g.N.Dialer.seen c.args.world.now).plans c.args.number c.args.work c.unused.result.outcome c.unused.result.uses.items c.args.slot c.in-Gone.is c.unused.ensures.outcome c.unused.ensures.uses

pub returns-in-Ended-clause-did : goal.returns-in-Ended-clause-did
returns-in-Ended-clause-did g c = λ plans awaited w. ended_did g.N.L.Link.looks (login_of c.args.opts.now) plans (g.N.Dialer.seen c.args.world.now).plans c.args.number c.args.work c.unused-in-Ended.result.outcome c.unused-in-Ended.result.uses.items c.args.slot c.in-Ended.tape c.in-Ended.link c.in-Ended.is c.unused-in-Ended.ensures.outcome c.unused-in-Ended.ensures.uses w
