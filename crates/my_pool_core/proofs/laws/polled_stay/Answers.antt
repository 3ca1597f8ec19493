use Rattle.my_pool_core.proofs.Placed.Staying.{polled-stay}
use Rattle.my_pool_core.proofs.laws.polled_stay.Goals as goal

pub returns : goal.returns
returns c = polled-stay
