use Rattle.my_query.proofs.queries.Query.fetch.Goals as goal

pub returns-clause-collects : goal.returns-clause-collects
returns-clause-collects g c =
    let w = c.collect_answer.ensures.collects in
    (w.0, w.1, w.2, w.3, (c.start-begun.result, g.C.Calls.conn_of c.start-begun.new.conn, c.start-begun.ensures.starts, w.4))
