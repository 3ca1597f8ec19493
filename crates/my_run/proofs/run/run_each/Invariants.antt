use Rattle.std.proofs.Common.{◌≡◌, take}
use Rattle.my_session.specs.Login.{login_of}
use Rattle.my_steps.specs.Dialing.{course_of}
use Rattle.my_run.proofs.Runs.{LinesSoFar}
use Rattle.my_run.proofs.run.run_each.Given as goal

abbrev pub invariant-loop-i : goal.invariant-loop-i
invariant-loop-i g l = record {
  so_far : LinesSoFar g.N.L.Link.looks (login_of l.opts) (g.N.Dialer.seen l.fn.world).plans (course_of (g.N.Dialer.seen l.fn.world)) (g.N.Dialer.seen l.world) (take l.i l.steps) l.slots.items l.answers.items l.beside l.statements;
  takes : (g.N.Dialer.seen l.world).takes ≡ (g.N.Dialer.seen l.fn.world).takes;
}
