use Rattle.my_query.proofs.queryable.Queryable.exec_fold.Goals as goal

pub returns-clause-folds : goal.returns-clause-folds
returns-clause-folds g c =
    let w = c.fold_answer.ensures.folds in
    (w.0, w.1, (c.execute-begun.result, g.Self.Calls.conn_of c.execute-begun.new.conn, c.execute-begun.ensures.executes, w.2))
