use Rattle.my_pool_core.proofs.Placed.Staying.{decided-place, done-place, taken-place}
use Rattle.my_pool_core.proofs.laws.verdict_places.Goals as goal

pub returns-clause-decide : goal.returns-clause-decide
returns-clause-decide c = decided-place

pub returns-clause-done : goal.returns-clause-done
returns-clause-done c = done-place

pub returns-clause-taken : goal.returns-clause-taken
returns-clause-taken c = taken-place
