use Rattle.std.proofs.Common.{sym, subst, refl}
use Rattle.my_link.specs.World.{IsFresh}
use Rattle.my_steps.specs.Midst.{Kept}
use Rattle.my_steps.proofs.Working.Midst.{hung}
use Rattle.my_steps.proofs.connect.join_world.Goals as goal

pub returns-in-Ok-clause-tried : goal.returns-in-Ok-clause-tried
returns-in-Ok-clause-tried g c = λ fresh. Kept refl refl

pub returns-in-Err-clause-tried : goal.returns-in-Err-clause-tried
returns-in-Err-clause-tried g c = λ fresh. hung c.hang_up.result c.args.number (g.N.L.Link.looks c.in-Err.link) (g.N.Dialer.seen c.args.world.now).dials (g.N.Dialer.seen c.hang_up.new.self).dials (g.N.Dialer.seen c.args.world.now).back (g.N.Dialer.seen c.hang_up.new.self).back c.hang_up.ensures.back c.hang_up.ensures.untold c.hang_up.ensures.dials (subst (λ (l : g.row.N-L.Denot). IsFresh (g.N.L.Link.looks l).got) (sym c.in-Err.ensures.back) fresh)
