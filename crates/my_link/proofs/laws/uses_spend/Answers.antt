use Rattle.my_link.proofs.Spending.{used_spent}
use Rattle.my_link.proofs.laws.uses_spend.Goals as goal

pub returns : goal.returns
returns c = used_spent
