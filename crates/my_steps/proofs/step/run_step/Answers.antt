use Rattle.std.proofs.Common.{length, refl}
use Rattle.my_steps.specs.Slot.{handles_in}
use Rattle.std.specs.Option.{option_copied}
use Rattle.std.proofs.lemmas.Result.{IfOk-weaker}
use Rattle.my_session.specs.Login.{login_of}
use Rattle.my_steps.specs.Dialing.{has_dialed}
use Rattle.my_steps.specs.Midst.{number_of}
use Rattle.my_steps.proofs.Working.Midst.{midst_same, step_midst}
use Rattle.my_steps.proofs.Working.Ordering.{on_ok, step_chance, step_counts, step_is, same_handles}
use Rattle.my_steps.proofs.step.run_step.Goals as goal

pub returns-clause-steps : goal.returns-clause-steps
returns-clause-steps g c = IfOk-weaker c.carry_out.result _ _ (λ d f. step_is g.N.L.Link.looks (login_of c.args.opts.now) (g.N.Dialer.seen c.args.world.now).plans (g.N.Dialer.seen c.now-now.new.self).plans (g.N.Dialer.seen c.carry_out.new.world).plans c.args.found c.args.aim (option_copied c.args.named) c.args.step.now c.in_ok-order.order c.args.slots.now.items c.carry_out.new.slots.items d c.in_ok-order.ensures c.now-now.ensures.plans f) c.carry_out.ensures.steps

pub returns-clause-chance : goal.returns-clause-chance
returns-clause-chance g c =
    on_ok c.carry_out.result _ _ (λ w. step_chance c.args.found c.args.aim (option_copied c.args.named) c.args.step.now c.in_ok-order.order (handles_in g.N.L.Link.looks (g.N.Dialer.seen c.now-now.new.self).plans c.args.slots.now.items) (handles_in g.N.L.Link.looks (g.N.Dialer.seen c.args.world.now).plans c.args.slots.now.items) (g.N.Dialer.seen c.now-now.new.self).chance (g.N.Dialer.seen c.args.world.now).chance (g.N.Dialer.seen c.carry_out.new.world).chance c.in_ok-order.ensures (same_handles g.N.L.Link.looks (g.N.Dialer.seen c.args.world.now).plans (g.N.Dialer.seen c.now-now.new.self).plans c.args.slots.now.items c.now-now.ensures.plans) c.now-now.ensures.chance w) c.carry_out.ensures.chance

pub returns-clause-counts : goal.returns-clause-counts
returns-clause-counts g c =
    IfOk-weaker c.carry_out.result _ _ (λ d w. step_counts c.args.found c.args.aim (option_copied c.args.named) c.args.step.now c.in_ok-order.order (handles_in g.N.L.Link.looks (g.N.Dialer.seen c.now-now.new.self).plans c.args.slots.now.items) (handles_in g.N.L.Link.looks (g.N.Dialer.seen c.args.world.now).plans c.args.slots.now.items) (g.N.Dialer.seen c.args.world.now).dials (g.N.Dialer.seen c.now-now.new.self).dials (g.N.Dialer.seen c.carry_out.new.world).dials d.uses.items c.in_ok-order.ensures (same_handles g.N.L.Link.looks (g.N.Dialer.seen c.args.world.now).plans (g.N.Dialer.seen c.now-now.new.self).plans c.args.slots.now.items c.now-now.ensures.plans) c.now-now.ensures.dials w) c.carry_out.ensures.counts

pub returns-in_err-order-clause-midst : goal.returns-in_err-order-clause-midst
returns-in_err-order-clause-midst g c = midst_same (has_dialed c.args.step.now (handles_in g.N.L.Link.looks (g.N.Dialer.seen c.args.world.now).plans c.args.slots.now.items)) (number_of c.args.step.now (length c.args.slots.now.items)) (g.N.Dialer.seen c.args.world.now) c.args.slots.now.items c.args.slots.now.items refl

pub returns-clause-midst : goal.returns-clause-midst
returns-clause-midst g c = step_midst c.args.found c.args.aim (option_copied c.args.named) c.args.step.now c.in_ok-order.order (handles_in g.N.L.Link.looks (g.N.Dialer.seen c.now-now.new.self).plans c.args.slots.now.items) (handles_in g.N.L.Link.looks (g.N.Dialer.seen c.args.world.now).plans c.args.slots.now.items) (length c.args.slots.now.items) (g.N.Dialer.seen c.args.world.now) (g.N.Dialer.seen c.now-now.new.self) (g.N.Dialer.seen c.carry_out.new.world) c.args.slots.now.items c.carry_out.new.slots.items c.in_ok-order.ensures (same_handles g.N.L.Link.looks (g.N.Dialer.seen c.args.world.now).plans (g.N.Dialer.seen c.now-now.new.self).plans c.args.slots.now.items c.now-now.ensures.plans) c.now-now.ensures.dials c.now-now.ensures.back c.carry_out.ensures.midst
