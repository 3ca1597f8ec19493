use Rattle.std.specs.Prelude.{is_some}
use Rattle.std.proofs.Common.{ap}
use Rattle.my_pool.proofs.exchange.returning.bury.Goals as goal

pub put_left-requires : goal.put_left-requires
put_left-requires g c = λ some. c.requires (ap is_some c.in-Some.is)
