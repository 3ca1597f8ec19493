use Rattle.std.proofs.Common.{◌≡◌, ℕ, ◌+◌, ◌*◌, ◌^◌, ◌<◌, ◌≤◌, length}
use Rattle.my_pool_parts.specs.Lists.{how_many}
use Rattle.my_pool_parts.specs.Requests.{is_waiting, wake_all}
use Rattle.my_pool_parts.proofs.live.Live.wake_all.Given as goal

abbrev pub invariant-loop-self : goal.invariant-loop-self
invariant-loop-self g l = record {
  woken : wake_all l.self ≡ wake_all l.fn.self;
  long : length l.self ≡ length l.fn.self;
  left : (d : ℕ) → length l.fn.self < 2 ^ d → g.C.Ledger.noted l.steps + how_many is_waiting l.self * (3 * d + 2) ≤ g.C.Ledger.noted l.fn.steps + how_many is_waiting l.fn.self * (3 * d + 2);
}

abbrev pub decreases-loop-self : goal.decreases-loop-self
decreases-loop-self g l = how_many is_waiting l.self
