use Rattle.my_pool_core.proofs.Replaying.{after-more, may-more, answers-more}
use Rattle.my_pool_core.proofs.Placed.Frame.{limits-stay}
use Rattle.my_pool_core.proofs.laws.one_more_event.Goals as goal

pub returns-clause-after : goal.returns-clause-after
returns-clause-after c = after-more

pub returns-clause-may : goal.returns-clause-may
returns-clause-may c = may-more

pub returns-clause-answers : goal.returns-clause-answers
returns-clause-answers c = answers-more

pub returns-clause-limits : goal.returns-clause-limits
returns-clause-limits c = limits-stay
