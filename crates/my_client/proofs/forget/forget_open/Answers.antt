use Rattle.std.proofs.Common.{refl}
use Rattle.my_client.proofs.Forgetting.{each_forget, never_refused}
use Rattle.my_client.proofs.forget.forget_open.Goals as goal

pub unreachable-requires : goal.unreachable-requires
unreachable-requires c = never_refused c.args.session.now.seen.closed (c.in-Err.ensures.refused.0 refl)

pub returns-clause-does : goal.returns-clause-does
returns-clause-does c =
    each_forget c.args.session.now.seen c.begin.new.self.seen c.step_once.new.session.seen c.args.tape.now c.note_call.new.tape c.note_end.new.tape c.in_ok-answer.answer c.in_ok-note_call.ensures.noted c.in-Ok.ensures.ok
    c.in_ok-answer.ensures.answered c.note_end.ensures.noted
