use Rattle.std.proofs.Common.{Ok, refl}
use Rattle.my_rows.proofs.rest.drop_answer.Goals as goal

pub returns-in-Ok-clause-reads : goal.returns-in-Ok-clause-reads
returns-in-Ok-clause-reads g c = rw c.in-Ok.is (Ok tt, g.C.Calls.conn_of c.args.conn.now, (refl, refl), c.drop_after.ensures.rest)
