use Rattle.my_query.proofs.queryable.Queryable.query_fold.Goals as goal

pub returns-clause-folds : goal.returns-clause-folds
returns-clause-folds g c =
    let w = c.fold_answer.ensures.folds in
    (w.0, w.1, (c.send_text-begun.result, g.Self.Calls.conn_of c.send_text-begun.new.conn, c.send_text-begun.ensures.query, w.2))
