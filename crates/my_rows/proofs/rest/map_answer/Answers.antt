use Rattle.std.proofs.Common.{Ok, Err, refl}
use Rattle.my_rows.proofs.rest.map_answer.Goals as goal

pub returns-in-Ok-clause-maps : goal.returns-in-Ok-clause-maps
returns-in-Ok-clause-maps g c = (
  record { items = c.new.result; f = c.args.f },
  c.new.ensures.items,
  refl,
  Ok c.in-Ok.mapped,
  refl,
  c.in-Ok.ensures.reads,
)

pub returns-in-Err-clause-maps : goal.returns-in-Err-clause-maps
returns-in-Err-clause-maps g c = (
  record { items = c.new.result; f = c.args.f },
  c.new.ensures.items,
  refl,
  Err c.in-Err.error,
  refl,
  c.in-Err.ensures.reads,
)
