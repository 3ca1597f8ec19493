use Rattle.my_pool_core.proofs.Asked.Wakes.{oldest-is, oldest-least, oldest-none}
use Rattle.my_pool_core.proofs.laws.oldest_is_least.Goals as goal

pub returns-clause-it : goal.returns-clause-it
returns-clause-it c = oldest-is

pub returns-clause-others : goal.returns-clause-others
returns-clause-others c = oldest-least

pub returns-clause-none : goal.returns-clause-none
returns-clause-none c = oldest-none
