use Rattle.my_rows.proofs.rest.gather_answer.Goals as goal

pub returns-in-Ok-clause-reads : goal.returns-in-Ok-clause-reads
returns-in-Ok-clause-reads g c = rw c.in-Ok.is (c.read_set-read.result, g.C.Calls.conn_of c.read_set-read.new.conn, c.read_set-read.ensures.set, c.drop_after.ensures.rest)
