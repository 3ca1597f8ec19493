use Rattle.my_rows.proofs.rest.first_of_answer.Goals as goal

pub returns-in-Ok-clause-reads : goal.returns-in-Ok-clause-reads
returns-in-Ok-clause-reads g c = rw c.in-Ok.is (c.next_item-read.result, g.C.Calls.conn_of c.next_item-read.new.conn, c.next_item-read.ensures.item, c.drop_after.ensures.rest)
