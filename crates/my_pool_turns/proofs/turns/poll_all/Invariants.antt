use Rattle.std.proofs.Common.{ℕ, List, ◌-◌, ◌^◌}
use Rattle.my_pool_turns.specs.Turns.{PollsThese}
use Rattle.my_pool_turns.proofs.turns.poll_all.Given as goal

abbrev pub invariant-loop-number : goal.invariant-loop-number
invariant-loop-number g l =
    (numbers : List ℕ) × PollsThese g.L.Link.looks l.task l.now numbers l.fn.pool l.from l.pool

abbrev pub decreases-loop-number : goal.decreases-loop-number
decreases-loop-number g l = 2 ^ 64 - l.from
