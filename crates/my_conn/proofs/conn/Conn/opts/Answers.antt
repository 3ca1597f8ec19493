use Rattle.my_conn.proofs.Resting.{account_by, each_account}
use Rattle.my_conn.proofs.conn.Conn.opts.Goals as goal

pub returns-clause-account : goal.returns-clause-account
returns-clause-account g c =
    let v = c.self.inside in
    rw (← c.self.view_is, c.opts.ensures) (each_account v.lost v.session.seen v.session.lifetime.opts v.tape v.pending c.self.invariant)

pub returns-clause-did : goal.returns-clause-did
returns-clause-did g c =
    let v = c.self.inside in
    rw (← c.self.view_is, c.opts.ensures) (λ login k w. account_by login v.session.seen v.tape v.pending k v.session.lifetime.opts w)
