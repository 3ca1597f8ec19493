use Rattle.my_pool_core.proofs.Oldest.{oldest-first}
use Rattle.my_pool_core.proofs.laws.oldest_first.Goals as goal

pub returns : goal.returns
returns c = oldest-first
