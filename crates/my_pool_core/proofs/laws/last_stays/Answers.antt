use Rattle.my_pool_core.proofs.Asked.Lasting.{last-lives}
use Rattle.my_pool_core.proofs.laws.last_stays.Goals as goal

pub returns : goal.returns
returns c = last-lives
