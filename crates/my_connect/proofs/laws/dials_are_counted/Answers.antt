use Rattle.my_connect.proofs.Refuting.{dials_counted}
use Rattle.my_connect.proofs.laws.dials_are_counted.Goals as goal

pub returns : goal.returns
returns g c = dials_counted
