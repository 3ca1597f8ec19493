use Rattle.my_query.proofs.queryable.Queryable.exec.Goals as goal

pub returns-clause-collects : goal.returns-clause-collects
returns-clause-collects g c =
    let w = c.collect_answer.ensures.collects in
    (w.0, w.1, w.2, w.3, (c.execute-begun.result, g.Self.Calls.conn_of c.execute-begun.new.conn, c.execute-begun.ensures.executes, w.4))
