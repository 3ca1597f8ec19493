use Rattle.std.proofs.Common.{subst, ap, refl, arith, length, ◌∙◌}
use Rattle.std.proofs.lemmas.List.{take-append-le}
use Rattle.my_reading.specs.Course.{Awaits}
use Rattle.my_session.specs.Sessions.{Seen}
use Rattle.my_client.specs.declared.poll.After.TheVariants.{Pending, Failed}
use Rattle.my_client.specs.declared.poll.Halt.TheVariants as halts
use Rattle.my_client.specs.Stands.{Stopped}
use Rattle.my_client.specs.Turns.{FailsNow}
use Rattle.my_client.proofs.Polling.{broke_read, came, ended_so, held_read, over_so}
use Rattle.my_client.proofs.Living.{lives_still, lives_then, lives_took, made_same}
use Rattle.my_client.proofs.poll.receive_into.Goals as goal

pub returns-in_ok-note_taken-in-Got-clause-turn : goal.returns-in_ok-note_taken-in-Got-clause-turn
returns-in_ok-note_taken-in-Got-clause-turn g c =
    came c.args.session.now.seen c.take.new.self.seen _ _ c.args.tape.now c.note_taken.new.tape c.args.room c.in-Got.n c.read.new.buf _ (take-append-le c.in-Got.n c.read.new.buf _ c.in-Got.ensures.looks.1) c.in-Got.ensures.looks.1
    c.in_ok-take-in-Got.ensures.ok c.in-Got.ensures.looks.0 c.in-Got.ensures.looks.2 c.in_ok-note_taken-in-Got.ensures.noted

pub returns-in-NotYet-clause-turn : goal.returns-in-NotYet-clause-turn
returns-in-NotYet-clause-turn g c =
    over_so (Stopped Awaits) c.args.session.now.seen c.args.session.now.seen _ _ c.args.tape.now c.args.room halts.ReadHeld Pending c.in-NotYet.ensures.looks
    (λ login k a w. held_read login c.args.session.now.seen c.args.session.now.seen k a c.args.room w)

pub returns-in_ok-error-in-End-clause-turn : goal.returns-in_ok-error-in-End-clause-turn
returns-in_ok-error-in-End-clause-turn g c =
    let e = c.in_ok-error-in-End.error in
    over_so (Stopped Awaits) c.args.session.now.seen c.fail_now.new.session.seen _ _ c.args.tape.now c.args.room halts.Ended (Failed e) c.in-End.ensures.looks
    (λ login k a w. ended_so login c.args.session.now.seen c.fail_now.new.session.seen k a c.args.room e w (subst (λ (u : Seen). FailsNow u c.fail_now.new.session.seen e) c.end.ensures.seen c.in_ok-error-in-End.ensures.fails))

pub returns-in_ok-error-in-Failed-clause-turn : goal.returns-in_ok-error-in-Failed-clause-turn
returns-in_ok-error-in-Failed-clause-turn g c =
    let e = c.in_ok-error-in-Failed.error in
    over_so (Stopped Awaits) c.args.session.now.seen c.fail_now-in-Failed.new.session.seen _ _ c.args.tape.now c.args.room halts.ReadFailed (Failed e) c.in-Failed.ensures.looks
    (λ login k a w. broke_read login c.args.session.now.seen c.fail_now-in-Failed.new.session.seen k a c.args.room e w (subst (λ (u : Seen). FailsNow u c.fail_now-in-Failed.new.session.seen e) c.fail.ensures.seen c.in_ok-error-in-Failed.ensures.fails))

pub returns-in_ok-note_taken-in-Got-clause-lives : goal.returns-in_ok-note_taken-in-Got-clause-lives
returns-in_ok-note_taken-in-Got-clause-lives g c =
    lives_took c.args.now c.in-Got.n c.args.session.now c.take.new.self c.read.new.buf _ (take-append-le c.in-Got.n c.read.new.buf _ c.in-Got.ensures.looks.1) c.in-Got.ensures.looks.1 c.in_ok-take-in-Got.ensures.ok c.in_ok-take-in-Got.ensures.lifetime

pub returns-in-NotYet-clause-lives : goal.returns-in-NotYet-clause-lives
returns-in-NotYet-clause-lives g c = lives_still c.args.now 0 c.args.session.now c.args.session.now (omega arith) refl

pub returns-in_ok-error-in-End-clause-lives : goal.returns-in_ok-error-in-End-clause-lives
returns-in_ok-error-in-End-clause-lives g c =
    lives_then c.args.now 0 c.args.session.now c.end.new.self c.fail_now.new.session
    (lives_still c.args.now 0 c.args.session.now c.end.new.self (omega (arith, ap (λ (s : Seen). length s.stand.unread) c.end.ensures.seen)) c.end.ensures.lifetime)
    c.in_ok-error-in-End.ensures.lives

pub returns-in_ok-error-in-Failed-clause-lives : goal.returns-in_ok-error-in-Failed-clause-lives
returns-in_ok-error-in-Failed-clause-lives g c =
    lives_then c.args.now 0 c.args.session.now c.fail.new.self c.fail_now-in-Failed.new.session
    (lives_still c.args.now 0 c.args.session.now c.fail.new.self (omega (arith, ap (λ (s : Seen). length s.stand.unread) c.fail.ensures.seen)) c.fail.ensures.lifetime)
    c.in_ok-error-in-Failed.ensures.lives

pub returns-in_err-take-in-Got-clause-made : goal.returns-in_err-take-in-Got-clause-made
returns-in_err-take-in-Got-clause-made g c = made_same c.args.session.now c.take.new.self c.take.ensures.lifetime

pub returns-in_ok-note_taken-in-Got-clause-made : goal.returns-in_ok-note_taken-in-Got-clause-made
returns-in_ok-note_taken-in-Got-clause-made g c = made_same c.args.session.now c.take.new.self c.take.ensures.lifetime

pub returns-in_err-note_taken-in-Got-clause-made : goal.returns-in_err-note_taken-in-Got-clause-made
returns-in_err-note_taken-in-Got-clause-made g c = made_same c.args.session.now c.take.new.self c.take.ensures.lifetime

pub returns-in_ok-error-in-End-clause-made : goal.returns-in_ok-error-in-End-clause-made
returns-in_ok-error-in-End-clause-made g c = c.fail_now.ensures.made ∙ made_same c.args.session.now c.end.new.self c.end.ensures.lifetime

pub returns-in_err-error-in-End-clause-made : goal.returns-in_err-error-in-End-clause-made
returns-in_err-error-in-End-clause-made g c = c.fail_now.ensures.made ∙ made_same c.args.session.now c.end.new.self c.end.ensures.lifetime

pub returns-in_ok-error-in-Failed-clause-made : goal.returns-in_ok-error-in-Failed-clause-made
returns-in_ok-error-in-Failed-clause-made g c = c.fail_now-in-Failed.ensures.made ∙ made_same c.args.session.now c.fail.new.self c.fail.ensures.lifetime

pub returns-in_err-error-in-Failed-clause-made : goal.returns-in_err-error-in-Failed-clause-made
returns-in_err-error-in-Failed-clause-made g c = c.fail_now-in-Failed.ensures.made ∙ made_same c.args.session.now c.fail.new.self c.fail.ensures.lifetime
