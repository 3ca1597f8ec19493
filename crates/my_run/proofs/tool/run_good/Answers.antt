use Rattle.std.proofs.Common.{inr, refl}
use Rattle.my_run.proofs.Stopping.{blank_stop}
use Rattle.my_run.proofs.tool.run_good.Goals as goal

pub returns-in-Err : goal.returns-in-Err
returns-in-Err g c = λ words s r input. blank_stop words (g.N.Dialer.seen c.args.world.now) (g.N.Dialer.seen c.run_script.new.world) s r (g.W.Sink.seen c.args.out.now) (g.W.Sink.seen c.args.out.now) c.blank.result c.blank.ensures.status refl c.blank.ensures.answers c.blank.ensures.tapes (inr (record {
  opts = c.args.opts.now;
  planned = c.args.plans;
  lines = c.args.script.now.plan.items;
  steps = c.args.script.now.steps.items;
  input = input;
  comes = c.in-Err.ensures.stopped;
}))
