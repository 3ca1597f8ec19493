use Rattle.my_pool_parts.proofs.Linked.Least.{IsAhead}
use Rattle.my_pool_parts.proofs.places.Places.next_at.Given as goal

abbrev pub invariant-loop-number : goal.invariant-loop-number
invariant-loop-number l = IsAhead l.self l.kind l.from l.number-iterator
