use Rattle.my_conn.proofs.Resting.{clean_by, each_clean}
use Rattle.my_conn.proofs.conn.Conn.is_dirty.Goals as goal

pub returns-clause-clean : goal.returns-clause-clean
returns-clause-clean g c =
    let v = c.self.inside in
    rw (← c.self.view_is, c.is_dirty.ensures) (each_clean v.lost v.session.seen v.tape v.pending c.self.invariant)

pub returns-clause-did : goal.returns-clause-did
returns-clause-did g c =
    let v = c.self.inside in
    rw (← c.self.view_is, c.is_dirty.ensures) (λ login k. clean_by login v.session.seen v.tape k)
