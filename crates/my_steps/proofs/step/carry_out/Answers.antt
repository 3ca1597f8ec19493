use Rattle.std.proofs.Common.{length, refl, subst}
use Rattle.my_session.specs.Login.{login_of}
use Rattle.my_script.specs.declared.action.Action.TheVariants.{Move}
use Rattle.my_steps.specs.Orders.{MayCarry}
use Rattle.my_steps.specs.Slot.{handles_in}
use Rattle.my_steps.proofs.Working.Midst.{midst_moved}
use Rattle.my_steps.proofs.Working.Numbers.{did_kept}
use Rattle.my_steps.proofs.Working.Ordering.{carries_known, stepped_moved}
use Rattle.my_steps.proofs.step.carry_out.Goals as goal

pub returns-in-Move-clause-steps : goal.returns-in-Move-clause-steps
returns-in-Move-clause-steps g c = did_kept c.move_world-moved.result _ _ _ _ c.move_world-moved.ensures.outcome c.move_world-moved.ensures.uses c.move_world-moved.ensures.plans
    (λ d e f same plans awaited w. carries_known g.N.L.Link.looks (login_of c.args.opts.now) plans (g.N.Dialer.seen c.args.world.now).plans (g.N.Dialer.seen c.move_world-moved.new.world).plans c.args.order (Move c.in-Move.line) c.args.slots.now.items c.args.slots.now.items d c.in-Move.is (stepped_moved g.N.L.Link.looks (login_of c.args.opts.now) plans (g.N.Dialer.seen c.args.world.now).plans (g.N.Dialer.seen c.move_world-moved.new.world).plans d.outcome d.uses.items c.args.slots.now.items same e f awaited w))

pub returns-in-Move-clause-midst : goal.returns-in-Move-clause-midst
returns-in-Move-clause-midst g c = midst_moved c.args.order (Move c.in-Move.line) (handles_in g.N.L.Link.looks (g.N.Dialer.seen c.args.world.now).plans c.args.slots.now.items) (length c.args.slots.now.items) (g.N.Dialer.seen c.args.world.now) (g.N.Dialer.seen c.move_world-moved.new.world) c.args.slots.now.items c.in-Move.is refl c.move_world-moved.ensures.dials c.move_world-moved.ensures.back

pub work_at-requires : goal.work_at-requires
work_at-requires g c = subst (MayCarry (g.N.Dialer.seen c.args.world.now).takes) c.in-Visit.is c.requires
