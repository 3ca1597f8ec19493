use Rattle.std.proofs.Common.{rules, subst, ap, refl, arith, length, ◌∙◌}
use Rattle.my_reading.specs.Course.{Owes}
use Rattle.my_session.specs.Sessions.{Seen}
use Rattle.my_client.specs.declared.poll.After.TheVariants.{Pending, Failed}
use Rattle.my_client.specs.declared.poll.Halt.TheVariants as halts
use Rattle.my_client.specs.Stands.{Stopped}
use Rattle.my_client.specs.Turns.{FailsNow}
use Rattle.my_client.proofs.Polling.{broke_write, held_write, over_so, went}
use Rattle.my_client.proofs.Living.{lives_still, lives_then, made_same, sent_unread}
use Rattle.my_client.proofs.poll.send.Goals as goal

pub returns-in_ok-note_sent-in-Took-clause-turn : goal.returns-in_ok-note_sent-in-Took-clause-turn
returns-in_ok-note_sent-in-Took-clause-turn g c = λ room.
    went c.args.session.now.seen c.sent.new.self.seen _ _ c.args.tape.now c.note_sent.new.tape room c.in-Took.n _ (search rules) c.sent.ensures.seen (search rules) (search rules) (search rules) c.in_ok-note_sent-in-Took.ensures.noted

pub returns-in-NotYet-clause-turn : goal.returns-in-NotYet-clause-turn
returns-in-NotYet-clause-turn g c = λ room.
    over_so (Stopped Owes) c.args.session.now.seen c.args.session.now.seen _ _ c.args.tape.now room halts.WriteHeld Pending c.in-NotYet.ensures.looks
    (λ login k a w. held_write login c.args.session.now.seen c.args.session.now.seen k a room w)

pub returns-in_ok-error-in-Failed-clause-turn : goal.returns-in_ok-error-in-Failed-clause-turn
returns-in_ok-error-in-Failed-clause-turn g c = λ room.
    let e = c.in_ok-error-in-Failed.error in
    over_so (Stopped Owes) c.args.session.now.seen c.fail_now.new.session.seen _ _ c.args.tape.now room halts.WriteFailed (Failed e) c.in-Failed.ensures.looks
    (λ login k a w. broke_write login c.args.session.now.seen c.fail_now.new.session.seen k a room e w (subst (λ (u : Seen). FailsNow u c.fail_now.new.session.seen e) c.fail.ensures.seen c.in_ok-error-in-Failed.ensures.fails))

pub returns-in_ok-note_sent-in-Took-clause-lives : goal.returns-in_ok-note_sent-in-Took-clause-lives
returns-in_ok-note_sent-in-Took-clause-lives g c =
    lives_still c.args.now 0 c.args.session.now c.sent.new.self (omega (arith, ap (λ (s : Seen). length s.stand.unread) c.sent.ensures.seen, sent_unread c.in-Took.n c.args.session.now.seen)) c.sent.ensures.lifetime

pub returns-in-NotYet-clause-lives : goal.returns-in-NotYet-clause-lives
returns-in-NotYet-clause-lives g c = lives_still c.args.now 0 c.args.session.now c.args.session.now (omega arith) refl

pub returns-in_ok-error-in-Failed-clause-lives : goal.returns-in_ok-error-in-Failed-clause-lives
returns-in_ok-error-in-Failed-clause-lives g c =
    lives_then c.args.now 0 c.args.session.now c.fail.new.self c.fail_now.new.session
    (lives_still c.args.now 0 c.args.session.now c.fail.new.self (omega (arith, ap (λ (s : Seen). length s.stand.unread) c.fail.ensures.seen)) c.fail.ensures.lifetime)
    c.in_ok-error-in-Failed.ensures.lives

pub returns-in_ok-note_sent-in-Took-clause-made : goal.returns-in_ok-note_sent-in-Took-clause-made
returns-in_ok-note_sent-in-Took-clause-made g c = made_same c.args.session.now c.sent.new.self c.sent.ensures.lifetime

pub returns-in_ok-error-in-Failed-clause-made : goal.returns-in_ok-error-in-Failed-clause-made
returns-in_ok-error-in-Failed-clause-made g c = c.fail_now.ensures.made ∙ made_same c.args.session.now c.fail.new.self c.fail.ensures.lifetime

pub returns-in_err-error-in-Failed-clause-made : goal.returns-in_err-error-in-Failed-clause-made
returns-in_err-error-in-Failed-clause-made g c = c.fail_now.ensures.made ∙ made_same c.args.session.now c.fail.new.self c.fail.ensures.lifetime
