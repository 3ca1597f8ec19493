use Rattle.std.proofs.Common.{Some, refl}
use Rattle.std.proofs.lemmas.Result.{IfOk-weaker}
use Rattle.my_session.specs.Login.{login_of}
use Rattle.my_steps.specs.Midst.{Kept}
use Rattle.my_steps.proofs.Working.Awaiting.{at_trans}
use Rattle.my_steps.proofs.Working.Connecting.{dialed_before}
use Rattle.my_steps.proofs.Working.Midst.{tried_from}
use Rattle.my_steps.proofs.connect.dial_at.Goals as goal

pub returns-clause-dialed : goal.returns-clause-dialed
returns-clause-dialed g c = IfOk-weaker c.dial_to-dialed.result.1 _ _ (λ d f. dialed_before g.N.L.Link.looks (login_of c.args.opts.now) c.args.number (g.N.Dialer.seen c.args.world.now).plans (g.N.Dialer.seen c.random-random.new.self).plans (g.N.Dialer.seen c.dial_to-dialed.new.world).plans c.dial_to-dialed.result.0 d.outcome d.uses.items (c.random-random.ensures.plans c.args.number) f) c.dial_to-dialed.ensures.dialed

pub returns-clause-others : goal.returns-clause-others
returns-clause-others g c = λ n apart. at_trans (g.N.Dialer.seen c.args.world.now).plans (g.N.Dialer.seen c.random-random.new.self).plans (g.N.Dialer.seen c.dial_to-dialed.new.world).plans n (c.random-random.ensures.plans n) (c.dial_to-dialed.ensures.others n apart)

pub returns-in-Err-clause-tried : goal.returns-in-Err-clause-tried
returns-in-Err-clause-tried g c = Kept refl refl

pub returns-clause-tried : goal.returns-clause-tried
returns-clause-tried g c = tried_from (Some c.args.number) (g.N.Dialer.seen c.args.world.now).dials (g.N.Dialer.seen c.random-random.new.self).dials (g.N.Dialer.seen c.dial_to-dialed.new.world).dials (g.N.Dialer.seen c.args.world.now).back (g.N.Dialer.seen c.random-random.new.self).back (g.N.Dialer.seen c.dial_to-dialed.new.world).back c.random-random.ensures.dials c.random-random.ensures.back c.dial_to-dialed.ensures.tried
