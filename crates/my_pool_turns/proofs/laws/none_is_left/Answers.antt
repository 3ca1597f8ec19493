use Rattle.my_pool_turns.proofs.Once.{none-left}
use Rattle.my_pool_turns.proofs.laws.none_is_left.Goals as goal

pub returns : goal.returns
returns g c = λ now p q t. none-left g.L.Link.looks now p q t
