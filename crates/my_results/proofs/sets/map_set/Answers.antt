use Rattle.std.proofs.Common.{Ok, Err, refl}
use Rattle.my_results.proofs.sets.map_set.Goals as goal

pub returns-in-Ok-clause-set : goal.returns-in-Ok-clause-set
returns-in-Ok-clause-set g c = (
  record { items = c.new.result; f = c.args.f },
  c.new.ensures.items,
  refl,
  Ok c.in-Ok.mapped,
  refl,
  c.in-Ok.ensures.set,
)

pub returns-in-Err-clause-set : goal.returns-in-Err-clause-set
returns-in-Err-clause-set g c = (
  record { items = c.new.result; f = c.args.f },
  c.new.ensures.items,
  refl,
  Err c.in-Err.error,
  refl,
  c.in-Err.ensures.set,
)
