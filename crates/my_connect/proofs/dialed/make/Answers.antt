use Rattle.std.proofs.Common.{refl}
use Rattle.my_connect.proofs.dialed.make.Goals as goal

pub returns-in-Ok : goal.returns-in-Ok
returns-in-Ok g c = rw (c.of.ensures) (c.in-Ok.ensures, refl)

pub returns-in-Err : goal.returns-in-Err
returns-in-Err g c = record { left = c.in-Err.left; unmade = c.in-Err.ensures; ends = c.give_up.ensures }
