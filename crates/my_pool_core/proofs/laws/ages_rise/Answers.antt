use Rattle.my_pool_core.proofs.Placed.Frame.{age-new, age-fresh, age-rises, age-last, last-closes, last-stays, ages-stay}
use Rattle.my_pool_core.proofs.laws.ages_rise.Goals as goal

pub returns-clause-new : goal.returns-clause-new
returns-clause-new c = age-new

pub returns-clause-fresh : goal.returns-clause-fresh
returns-clause-fresh c = age-fresh

pub returns-clause-rises : goal.returns-clause-rises
returns-clause-rises c = age-rises

pub returns-clause-last : goal.returns-clause-last
returns-clause-last c = age-last

pub returns-clause-closes : goal.returns-clause-closes
returns-clause-closes c = last-closes

pub returns-clause-stays : goal.returns-clause-stays
returns-clause-stays c = last-stays

pub returns-clause-others : goal.returns-clause-others
returns-clause-others c = ages-stay
