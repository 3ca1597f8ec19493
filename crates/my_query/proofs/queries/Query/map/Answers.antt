use Rattle.my_query.proofs.queries.Query.map.Goals as goal

pub returns-clause-maps : goal.returns-clause-maps
returns-clause-maps g c =
    let w = c.map_answer.ensures.maps in
    (w.0, w.1, w.2, w.3, w.4, (c.start-begun.result, g.C.Calls.conn_of c.start-begun.new.conn, c.start-begun.ensures.starts, w.5))
