use Rattle.my_pool_core.proofs.Placed.Counts.{take-counts, none-counts, decide-due, done-due}
use Rattle.my_pool_core.proofs.laws.turn_ends.Goals as goal

pub returns-clause-taken : goal.returns-clause-taken
returns-clause-taken c = take-counts

pub returns-clause-none : goal.returns-clause-none
returns-clause-none c = none-counts

pub returns-clause-decide : goal.returns-clause-decide
returns-clause-decide c = decide-due

pub returns-clause-done : goal.returns-clause-done
returns-clause-done c = done-due
