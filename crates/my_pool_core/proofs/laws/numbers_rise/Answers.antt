use Rattle.my_pool_core.proofs.Placed.Frame.{number-next, number-fresh, number-rises, numbers-stay}
use Rattle.my_pool_core.proofs.laws.numbers_rise.Goals as goal

pub returns-clause-next : goal.returns-clause-next
returns-clause-next c = number-next

pub returns-clause-fresh : goal.returns-clause-fresh
returns-clause-fresh c = number-fresh

pub returns-clause-rises : goal.returns-clause-rises
returns-clause-rises c = number-rises

pub returns-clause-others : goal.returns-clause-others
returns-clause-others c = numbers-stay
