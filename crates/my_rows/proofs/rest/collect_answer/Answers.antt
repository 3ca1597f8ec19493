use Rattle.std.proofs.Common.{Ok, Err, refl}
use Rattle.my_rows.proofs.rest.collect_answer.Goals as goal

pub returns-in-Ok-clause-collects : goal.returns-in-Ok-clause-collects
returns-in-Ok-clause-collects g c = (record { items = c.new.result }, c.new.ensures.items, Ok c.in-Ok.collected, refl, c.in-Ok.ensures.reads)

pub returns-in-Err-clause-collects : goal.returns-in-Err-clause-collects
returns-in-Err-clause-collects g c = (record { items = c.new.result }, c.new.ensures.items, Err c.in-Err.error, refl, c.in-Err.ensures.reads)
