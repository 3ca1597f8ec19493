use Rattle.std.proofs.Common.{◌≡◌, ◌++◌, length}
use Rattle.my_pool_parts.specs.Linked.{in_order}
use Rattle.my_pool_parts.proofs.Order.{backwards}
use Rattle.my_pool_parts.proofs.Linked.Walked.{IsRest}
use Rattle.my_pool_parts.proofs.places.Places.list.Given as goal

abbrev pub invariant-loop-at : goal.invariant-loop-at
invariant-loop-at l = record {
  rest : IsRest l.self-inside.nodes.entries l.at (in_order l.self-inside.nodes.entries l.at);
  items : l.all.items ++ backwards (in_order l.self-inside.nodes.entries l.at) ≡ backwards (in_order l.self-inside.nodes.entries l.self-inside.newest);
}

abbrev pub decreases-loop-at : goal.decreases-loop-at
decreases-loop-at l = length (in_order l.self-inside.nodes.entries l.at)
