use Rattle.my_steps.proofs.Working.Ordering.{moved_plans}
use Rattle.my_steps.proofs.step.move_world.Goals as goal

pub returns-clause-plans : goal.returns-clause-plans
returns-clause-plans g c = moved_plans c.args.line.now (g.N.Dialer.seen c.args.world.now).plans (g.N.Dialer.seen c.prepare.new.self).plans c.requires.moves c.in_ok-prepare.ensures.ok
