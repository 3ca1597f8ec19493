use Rattle.my_query.proofs.queryable.Queryable.query.Goals as goal

pub returns-clause-collects : goal.returns-clause-collects
returns-clause-collects g c =
    let w = c.collect_answer.ensures.collects in
    (w.0, w.1, w.2, w.3, (c.send_text-begun.result, g.Self.Calls.conn_of c.send_text-begun.new.conn, c.send_text-begun.ensures.query, w.4))
