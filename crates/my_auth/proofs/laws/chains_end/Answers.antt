use Rattle.my_auth.proofs.Chains.{ends}
use Rattle.my_auth.proofs.laws.chains_end.Goals as goal

pub returns : goal.returns
returns c = ends
