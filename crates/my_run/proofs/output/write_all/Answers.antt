use Rattle.std.proofs.Common.{arith, ◌∙◌}
use Rattle.std.proofs.lemmas.List.{length-drop}
use Rattle.my_run.proofs.Outputs.{went, stopped}
use Rattle.my_run.proofs.output.write_all.Goals as goal

pub rest-preserved : goal.rest-preserved
rest-preserved g c =
    let b = rw c.following.ensures at c.in-Took.ensures.bytes in
    record {
      within = omega (arith, length-drop c.rest.from c.args.bytes.now, b.1);
      so_far = went _ _ _ c.rest.from c.in-Took.n c.args.bytes.now c.rest.invariant.so_far b.2;
      faults = c.in-Took.ensures.counts ∙ c.rest.invariant.faults;
    }

pub returns-in-Failed : goal.returns-in-Failed
returns-in-Failed g c = stopped (g.W.Sink.seen c.args.out.now) (g.W.Sink.seen c.rest.out) (g.W.Sink.seen c.write.new.self) c.rest.from _ c.rest.invariant.so_far c.in-Failed.ensures.bytes c.rest.invariant.faults c.in-Failed.ensures.counts
