use Rattle.my_pool.proofs.Burying.{stays-there}
use Rattle.my_pool.proofs.laws.tapes_stay.Goals as goal

pub returns : goal.returns
returns g c = λ left event answer p q made. stays-there left p.gone q.gone made.gone
