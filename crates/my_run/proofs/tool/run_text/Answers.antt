use Rattle.std.proofs.Common.{inl, refl}
use Rattle.my_run.proofs.Stopping.{blank_stop}
use Rattle.my_run.proofs.tool.run_text.Goals as goal

pub returns-in-Err : goal.returns-in-Err
returns-in-Err g c = λ words s r input. blank_stop words (g.N.Dialer.seen c.args.world.now) (g.N.Dialer.seen c.args.world.now) s r (g.W.Sink.seen c.args.out.now) (g.W.Sink.seen c.args.out.now) c.blank.result c.blank.ensures.status refl c.blank.ensures.answers c.blank.ensures.tapes (inl refl)
