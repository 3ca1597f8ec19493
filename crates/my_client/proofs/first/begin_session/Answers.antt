use Rattle.my_session.specs.Login.{login_of}
use Rattle.my_client.proofs.Beginning.{first_connects}
use Rattle.my_client.proofs.first.begin_session.Goals as goal

pub returns-in-Ok-begin-clause-begins : goal.returns-in-Ok-begin-clause-begins
returns-in-Ok-begin-clause-begins c =
    first_connects (login_of c.args.opts) c.in_ok-session.session.seen c.begin.new.self.seen c.first_tape-tape.result c.note_call.new.tape c.in_ok-session.ensures.begun
    c.in-Ok-begin.ensures.ok c.first_tape-tape.ensures.agrees c.in-Ok.ensures.noted
