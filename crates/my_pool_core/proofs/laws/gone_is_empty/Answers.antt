use Rattle.my_pool_core.proofs.Oldest.{gone-empty}
use Rattle.my_pool_core.proofs.laws.gone_is_empty.Goals as goal

pub returns : goal.returns
returns c = gone-empty
