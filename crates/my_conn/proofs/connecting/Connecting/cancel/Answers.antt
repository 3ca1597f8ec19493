use Rattle.my_conn.proofs.connecting.Connecting.cancel.Goals as goal

pub returns-clause-cancels : goal.returns-clause-cancels
returns-clause-cancels g c = rw (← c.self.view_is) (c.cancel_open.new.session.seen, c.cancel_open.ensures.does)
