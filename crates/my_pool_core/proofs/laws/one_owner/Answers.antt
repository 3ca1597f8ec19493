use Rattle.my_pool_core.proofs.Placed.Staying.{home-unleased-at, making-place, looking-place, one-holder}
use Rattle.my_pool_core.proofs.laws.one_owner.Goals as goal

pub returns-clause-home : goal.returns-clause-home
returns-clause-home c = home-unleased-at

pub returns-clause-made : goal.returns-clause-made
returns-clause-made c = making-place

pub returns-clause-looked_at : goal.returns-clause-looked_at
returns-clause-looked_at c = looking-place

pub returns-clause-holder : goal.returns-clause-holder
returns-clause-holder c = one-holder
