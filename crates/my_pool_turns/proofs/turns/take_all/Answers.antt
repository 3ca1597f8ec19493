use Rattle.std.proofs.Common.{◌<◌, ◌≤◌, zero, suc, refl, arith}
use Rattle.my_pool_core.specs.Counted.{due}
use Rattle.my_pool_core.proofs.Placed.Counts.{decide-due}
use Rattle.my_pool.specs.Fit.{facts_of}
use Rattle.my_pool_turns.proofs.turns.take_all.Goals as goal

pub loop-out-init : goal.loop-out-init
loop-out-init g c = (zero, refl)

pub loop-out-smaller : goal.loop-out-smaller
loop-out-smaller g c =
    let e = c.in-Some.out in
    let made = c.decide.ensures.made in
    let s = c.take_returned.new.self.state in
    let less : due c.decide.new.self.state ≤ due s = rw made.state (decide-due s e.number (facts_of c.args.now e.conn) c.args.now made.allowed) in
    let fewer : due s < due c.loop-out.pool.state = c.in-Some.ensures.fewer in
    omega arith

pub loop-out-preserved : goal.loop-out-preserved
loop-out-preserved g c =
    let w = c.loop-out.invariant in (
      suc w.0,
      (
        c.loop-out.pool,
        w.1,
        record {
          one = c.in-Some.out;
          between = c.take_returned.new.self;
          made = c.in-Some.ensures.made;
          called = c.in-Some.ensures.called;
          out = c.in-Some.ensures.kept;
          decided = record {
            verdict = c.decide.result;
            made = c.decide.ensures.made;
            called = c.decide.ensures.called;
            put = c.decide.ensures.kept;
          };
        },
      ),
    )

pub returns : goal.returns
returns g c =
    let w = c.loop-out.invariant in
    record {
      count = w.0;
      before = c.loop-out.pool;
      takes = w.1;
      none = record {
        made = c.in_default.ensures.made;
        called = c.in_default.ensures.called;
        kept = c.in_default.ensures.kept;
      };
    }
