use Rattle.my_query.proofs.queryable.Queryable.query_map.Goals as goal

pub returns-clause-maps : goal.returns-clause-maps
returns-clause-maps g c =
    let w = c.map_answer.ensures.maps in
    (w.0, w.1, w.2, w.3, w.4, (c.send_text-begun.result, g.Self.Calls.conn_of c.send_text-begun.new.conn, c.send_text-begun.ensures.query, w.5))
