use Rattle.std.proofs.Common.{Some, sym, subst}
use Rattle.std.proofs.lemmas.Result.{IfOk-weaker}
use Rattle.my_session.specs.Login.{login_of}
use Rattle.my_steps.specs.declared.slot.Slot.TheVariants.{Gone, Held}
use Rattle.my_script.specs.declared.action.Work.{Work}
use Rattle.my_script.specs.declared.action.Work.TheVariants as works
use Rattle.my_steps.specs.Did.{is_poll}
use Rattle.my_steps.specs.Midst.{MayTry}
use Rattle.my_steps.proofs.Working.Resuming.{dial_resumed}
use Rattle.my_steps.proofs.Working.{work_at_is, held_did, dropped_did}
use Rattle.my_steps.proofs.work.work_held.Goals as goal

pub returns-in-Poll-clause-did : goal.returns-in-Poll-clause-did
returns-in-Poll-clause-did g c = IfOk-weaker c.dial_at.result.1 _ _ (λ d f plans awaited w. work_at_is g.N.L.Link.looks (login_of c.args.opts.now) plans (g.N.Dialer.seen c.args.world.now).plans (g.N.Dialer.seen c.dial_at.new.world).plans c.args.number c.args.work.now (works.Poll c.in-Poll.field-0) d.outcome d.uses.items Held c.dial_at.result.0 c.in-Poll.is (dial_resumed g.N.L.Link.looks (login_of c.args.opts.now) c.in-Poll.field-0 c.args.number plans (g.N.Dialer.seen c.args.world.now).plans (g.N.Dialer.seen c.dial_at.new.world).plans c.dial_at.result.0 d.outcome d.uses.items awaited f)) c.dial_at.ensures.dialed

pub returns-in-Cancel-clause-did : goal.returns-in-Cancel-clause-did
returns-in-Cancel-clause-did g c = λ plans awaited w. work_at_is g.N.L.Link.looks (login_of c.args.opts.now) plans (g.N.Dialer.seen c.args.world.now).plans (g.N.Dialer.seen c.args.world.now).plans c.args.number c.args.work.now works.Cancel c.unused.result.outcome c.unused.result.uses.items Held Gone c.in-Cancel.is (dropped_did g.N.L.Link.looks (login_of c.args.opts.now) plans (g.N.Dialer.seen c.args.world.now).plans c.args.number c.unused.result.outcome c.unused.result.uses.items c.unused.ensures.outcome c.unused.ensures.uses)

pub returns-in-Begin-clause-did : goal.returns-in-Begin-clause-did
returns-in-Begin-clause-did g c = λ plans awaited w. held_did g.N.L.Link.looks (login_of c.args.opts.now) plans (g.N.Dialer.seen c.args.world.now).plans c.args.number c.args.work.now c.unused-in-Begin.result.outcome c.unused-in-Begin.result.uses.items c.in-Begin.is c.unused-in-Begin.ensures.outcome c.unused-in-Begin.ensures.uses awaited

pub returns-in-Poll-clause-tried : goal.returns-in-Poll-clause-tried
returns-in-Poll-clause-tried g c = subst (λ (w : Work). MayTry (is_poll w) (Some c.args.number) (g.N.Dialer.seen c.args.world.now) (g.N.Dialer.seen c.dial_at.new.world)) (sym c.in-Poll.is) c.dial_at.ensures.tried
