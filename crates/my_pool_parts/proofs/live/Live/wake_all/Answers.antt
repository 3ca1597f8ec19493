use Rattle.std.proofs.Common.{◌+◌, ◌*◌, ◌<◌, length, sym, ap, ◌∙◌, arith}
use Rattle.my_pool_parts.specs.Lists.{how_many}
use Rattle.my_pool_parts.specs.Requests.{is_waiting, wake_all}
use Rattle.my_pool_parts.proofs.Queue.Waking.{wake-fewer, wake-all-wake, all-awake}
use Rattle.my_pool_parts.proofs.Queue.Costs.{wake-long, woken-once}
use Rattle.my_pool_parts.proofs.live.Live.wake_all.Goals as goal

pub loop-self-smaller : goal.loop-self-smaller
loop-self-smaller g c =
    omega (arith, wake-fewer c.loop-self.self (omega (arith, c.count_waiting.ensures, c.loop-self-test.true)), ap (how_many is_waiting) c.wake.ensures.requests)

pub loop-self-preserved : goal.loop-self-preserved
loop-self-preserved g c =
    let was = c.loop-self.invariant in
    let now = c.wake.ensures.requests in
    let fewer : how_many is_waiting c.wake.new.self < how_many is_waiting c.loop-self.self = omega (arith, wake-fewer c.loop-self.self (omega (arith, c.count_waiting.ensures, c.loop-self-test.true)), ap (how_many is_waiting) now) in
    record {
      woken = ap wake_all now ∙ wake-all-wake c.loop-self.self ∙ was.woken;
      long = ap length now ∙ wake-long c.loop-self.self ∙ was.long;
      left = λ d lt. omega (arith, was.left d lt, c.wake.ensures.cost d (omega (arith, was.long, lt)), woken-once (how_many is_waiting c.wake.new.self) (how_many is_waiting c.loop-self.self) (3 * d + 2) fewer);
    }

pub returns-clause-requests : goal.returns-clause-requests
returns-clause-requests g c = sym (all-awake c.loop-self.self (omega (arith, c.count_waiting.ensures, c.loop-self-test.false))) ∙ c.loop-self.invariant.woken
