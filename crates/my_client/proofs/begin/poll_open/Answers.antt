use Rattle.my_client.proofs.Calling.{polled_call}
use Rattle.my_client.proofs.begin.poll_open.Goals as goal

pub returns-in-Ok-clause-does : goal.returns-in-Ok-clause-does
returns-in-Ok-clause-does g c = polled_call c.args.session.now.seen c.poll_session.new.session.seen _ _ c.args.tape.now c.poll_session.new.tape c.note_after.new.tape c.in_ok-after.met c.in_ok-after.after c.in_ok-after.ensures.within c.in_ok-after.ensures.polls c.in-Ok.ensures.noted
