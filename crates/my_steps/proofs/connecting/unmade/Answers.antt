use Rattle.std.proofs.Common.{refl}
use Rattle.my_steps.proofs.connecting.unmade.Goals as goal

pub returns-in-Some-clause-unmade : goal.returns-in-Some-clause-unmade
returns-in-Some-clause-unmade g c = (c.in-Some.tape, c.in-Some.is, refl, refl)
