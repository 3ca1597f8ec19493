use Rattle.my_query.proofs.queries.Query.reduce.Goals as goal

pub returns-clause-folds : goal.returns-clause-folds
returns-clause-folds g c =
    let w = c.fold_answer.ensures.folds in
    (w.0, w.1, (c.start-begun.result, g.C.Calls.conn_of c.start-begun.new.conn, c.start-begun.ensures.starts, w.2))
