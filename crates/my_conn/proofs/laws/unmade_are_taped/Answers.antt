use Rattle.my_conn.proofs.Sending.{unmade_taped}
use Rattle.my_conn.proofs.laws.unmade_are_taped.Goals as goal

pub returns : goal.returns
returns g c = unmade_taped
