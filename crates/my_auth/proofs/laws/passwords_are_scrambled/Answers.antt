use Rattle.my_auth.proofs.Chains.{scrambled}
use Rattle.my_auth.proofs.laws.passwords_are_scrambled.Goals as goal

pub returns : goal.returns
returns c = scrambled
