use Rattle.my_session.specs.Login.{login_of}
use Rattle.my_steps.specs.Dialing.{course_of}
use Rattle.my_run.proofs.Runs.{headline, if_at, on_at}
use Rattle.my_run.proofs.Stopping.{stops_in}
use Rattle.my_run.proofs.run.run_steps.Goals as goal

pub returns-in-Ok-Ok-clause-ok : goal.returns-in-Ok-Ok-clause-ok
returns-in-Ok-Ok-clause-ok g c =
    let ended = c.tapes_of-tapes.ensures in
    λ plans same. headline g.N.L.Link.looks (login_of c.args.opts.now) plans (course_of (g.N.Dialer.seen c.args.world.now)) (g.N.Dialer.seen c.run_each-ran.new.world) (g.N.Dialer.seen c.tapes_of-tapes.new.world) c.args.steps.now c.run_each-ran.new.slots.items c.run_each-ran.new.answers.items c.in-Ok-Ok.tapes.items
    (on_at c.run_each-ran.result c.in-Ok-Ok.field-0-0 _ c.in-Ok-Ok.is-0 c.run_each-ran.ensures.ok plans same)
    (if_at c.tapes_of-tapes.result c.in-Ok-Ok.tapes _ c.in-Ok-Ok.is-1 ended.tapes)
    (on_at c.tapes_of-tapes.result c.in-Ok-Ok.tapes _ c.in-Ok-Ok.is-1 ended.back) ended.dials ended.chance

pub returns-in_default-clause-err : goal.returns-in_default-clause-err
returns-in_default-clause-err g c =
    let ended = c.tapes_of-tapes.ensures in
    stops_in g.N.L.Link.looks (login_of c.args.opts.now) (g.N.Dialer.seen c.args.world.now).plans (course_of (g.N.Dialer.seen c.args.world.now)) (g.N.Dialer.seen c.run_each-ran.new.world) (g.N.Dialer.seen c.tapes_of-tapes.new.world) c.args.steps.now c.run_each-ran.new.slots.items c.run_each-ran.new.answers.items c.run_each-ran.result c.tapes_of-tapes.result c.run_each-ran.ensures.ok c.run_each-ran.ensures.err ended.back ended.err ended.dials
