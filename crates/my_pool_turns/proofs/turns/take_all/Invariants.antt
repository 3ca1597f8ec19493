use Rattle.std.proofs.Common.{ℕ}
use Rattle.my_pool_core.specs.Counted.{due}
use Rattle.my_pool_turns.specs.Turns.{TakesThese}
use Rattle.my_pool_turns.proofs.turns.take_all.Given as goal

abbrev pub invariant-loop-out : goal.invariant-loop-out
invariant-loop-out g l = (count : ℕ) × TakesThese l.now count l.fn.pool l.pool

abbrev pub decreases-loop-out : goal.decreases-loop-out
decreases-loop-out g l = due l.pool.state
