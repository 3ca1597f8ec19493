use Rattle.my_client.proofs.Cancelling.{each_cancel}
use Rattle.my_client.proofs.begin.cancel_open.Goals as goal

pub returns-clause-does : goal.returns-clause-does
returns-clause-does c = each_cancel c.args.session.now.seen c.cancel_session-closing.new.session.seen c.args.tape.now c.note_end.new.tape c.cancel_session-closing.result c.cancel_session-closing.ensures.cancels c.cancel_session-closing.ensures.closing c.note_end.ensures.noted
