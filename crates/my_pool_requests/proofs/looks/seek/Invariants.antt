use Rattle.std.specs.Prelude.{is_some}
use Rattle.my_pool_core.specs.Counted.{idle}
use Rattle.my_pool_requests.proofs.Seeking.{SoFar}
use Rattle.my_pool_requests.proofs.looks.seek.Given as goal

abbrev pub invariant-rounds : goal.invariant-rounds
invariant-rounds g l = SoFar g.L.Link.looks l.age l.now (is_some l.fn.waker) (is_some l.waker) l.fn.pool l.pool

abbrev pub decreases-rounds : goal.decreases-rounds
decreases-rounds g l = idle l.pool.state
