use Rattle.my_session.specs.Login.{login_of}
use Rattle.my_conn.proofs.Making.{making_begins}
use Rattle.my_conn.proofs.connecting.Connecting.new.Goals as goal

pub invariant_of-result : goal.invariant_of-result
invariant_of-result g c = making_begins (login_of c.args.opts) c.in-Ok.session.seen c.in-Ok.tape c.in-Ok.ensures.begins
