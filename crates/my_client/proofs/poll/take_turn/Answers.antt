use Rattle.std.proofs.Common.{refl, subst, sym, ◌∙◌}
use Rattle.std.proofs.lemmas.Result.{IfOk-weaker}
use Rattle.my_reading.specs.Course.{Awaits, Owes}
use Rattle.my_reading.specs.declared.error.Error.{Error}
use Rattle.my_session.specs.declared.answer.SessionStep.TheVariants as steps
use Rattle.my_session.specs.Sessions.{IsStep}
use Rattle.my_client.specs.declared.poll.After.TheVariants.{Pending, Answered, Failed}
use Rattle.my_client.specs.declared.poll.Halt.TheVariants as halts
use Rattle.my_client.specs.Stands.{StandsAsked, Stopped}
use Rattle.my_client.proofs.Polling.{answered_so, behind, failed_so, full_so, over_so}
use Rattle.my_client.proofs.Stepping.{step_leaves}
use Rattle.my_client.specs.Turns.{took_by}
use Rattle.my_client.proofs.Living.{lives_by, lives_then, made_lived}
use Rattle.my_client.proofs.poll.take_turn.Goals as goal

pub returns-then-room-eq0-clause-turn : goal.returns-then-room-eq0-clause-turn
returns-then-room-eq0-clause-turn g c =
    over_so StandsAsked c.args.session.now.seen c.step.new.self.seen _ _ c.args.tape.now c.args.room halts.Ready Pending refl
    (λ login k a w. full_so login c.step.new.self.seen c.step.new.self.seen k a c.args.room c.if-room-eq0.true (step_leaves login c.args.session.now.seen c.step.new.self.seen k a steps.Need w c.in-Need.ensures.reads))

pub returns-in-Send-clause-turn : goal.returns-in-Send-clause-turn
returns-in-Send-clause-turn g c = IfOk-weaker c.send.result _ _
    (λ turn f. behind (Stopped Owes) c.args.session.now.seen c.step.new.self.seen c.send.new.session.seen _ _ _ _ c.args.room turn
    (λ login k a w. step_leaves login c.args.session.now.seen c.step.new.self.seen k a steps.Send w c.in-Send.ensures.reads) (f c.args.room))
    c.send.ensures.turn

pub returns-else-room-eq0-clause-turn : goal.returns-else-room-eq0-clause-turn
returns-else-room-eq0-clause-turn g c = IfOk-weaker c.receive.result _ _
    (λ turn f. behind (Stopped Awaits) c.args.session.now.seen c.step.new.self.seen c.receive.new.session.seen _ _ _ _ c.args.room turn
    (λ login k a w. step_leaves login c.args.session.now.seen c.step.new.self.seen k a steps.Need w c.in-Need.ensures.reads) f)
    c.receive.ensures.turn

pub returns-in-Done-clause-turn : goal.returns-in-Done-clause-turn
returns-in-Done-clause-turn g c =
    over_so StandsAsked c.args.session.now.seen c.step.new.self.seen _ _ c.args.tape.now c.args.room halts.Ready (Answered c.in-Done.answer) refl
    (λ login k a w. answered_so login c.args.session.now.seen c.step.new.self.seen k a c.args.room c.in-Done.answer (step_leaves login c.args.session.now.seen c.step.new.self.seen k a (steps.Done c.in-Done.answer) w c.in-Done.ensures.reads))

pub returns-in_ok-fault-in-Fault-clause-turn : goal.returns-in_ok-fault-in-Fault-clause-turn
returns-in_ok-fault-in-Fault-clause-turn g c =
    let e = c.in_ok-fault-in-Fault.field-0 in
    over_so StandsAsked c.args.session.now.seen c.step.new.self.seen _ _ c.args.tape.now c.args.room halts.Ready (Failed e) refl
    (λ login k a w. failed_so login c.args.session.now.seen c.step.new.self.seen k a c.args.room e
    (step_leaves login c.args.session.now.seen c.step.new.self.seen k a (steps.Fault e) w
    (λ o x. subst (λ (y : Error). IsStep o c.args.session.now.seen c.step.new.self.seen (steps.Fault y)) (sym c.in_ok-fault-in-Fault.ensures.value) (c.in-Fault.ensures.reads o x))
    c.in_ok-fault-in-Fault.ensures.kept))

pub returns-then-room-eq0-clause-lives : goal.returns-then-room-eq0-clause-lives
returns-then-room-eq0-clause-lives g c = lives_by c.args.now c.args.session.now c.step.new.self c.in-Need.ensures.shorter c.in-Need.ensures.lifetime

pub returns-in-Send-clause-lives : goal.returns-in-Send-clause-lives
returns-in-Send-clause-lives g c = IfOk-weaker c.send.result _ _
    (λ turn f. lives_then c.args.now (took_by turn) c.args.session.now c.step.new.self c.send.new.session (lives_by c.args.now c.args.session.now c.step.new.self c.in-Send.ensures.shorter c.in-Send.ensures.lifetime) f)
    c.send.ensures.lives

pub returns-else-room-eq0-clause-lives : goal.returns-else-room-eq0-clause-lives
returns-else-room-eq0-clause-lives g c = IfOk-weaker c.receive.result _ _
    (λ turn f. lives_then c.args.now (took_by turn) c.args.session.now c.step.new.self c.receive.new.session (lives_by c.args.now c.args.session.now c.step.new.self c.in-Need.ensures.shorter c.in-Need.ensures.lifetime) f)
    c.receive.ensures.lives

pub returns-in-Done-clause-lives : goal.returns-in-Done-clause-lives
returns-in-Done-clause-lives g c = lives_by c.args.now c.args.session.now c.step.new.self c.in-Done.ensures.shorter c.in-Done.ensures.lifetime

pub returns-in_ok-fault-in-Fault-clause-lives : goal.returns-in_ok-fault-in-Fault-clause-lives
returns-in_ok-fault-in-Fault-clause-lives g c = lives_by c.args.now c.args.session.now c.step.new.self c.in-Fault.ensures.shorter c.in-Fault.ensures.lifetime

pub returns-then-room-eq0-clause-made : goal.returns-then-room-eq0-clause-made
returns-then-room-eq0-clause-made g c = made_lived c.args.now _ _ c.args.session.now c.step.new.self c.in-Need.ensures.lifetime

pub returns-in-Send-clause-made : goal.returns-in-Send-clause-made
returns-in-Send-clause-made g c = c.send.ensures.made ∙ made_lived c.args.now _ _ c.args.session.now c.step.new.self c.in-Send.ensures.lifetime

pub returns-else-room-eq0-clause-made : goal.returns-else-room-eq0-clause-made
returns-else-room-eq0-clause-made g c = c.receive.ensures.made ∙ made_lived c.args.now _ _ c.args.session.now c.step.new.self c.in-Need.ensures.lifetime

pub returns-in-Done-clause-made : goal.returns-in-Done-clause-made
returns-in-Done-clause-made g c = made_lived c.args.now _ _ c.args.session.now c.step.new.self c.in-Done.ensures.lifetime

pub returns-in_ok-fault-in-Fault-clause-made : goal.returns-in_ok-fault-in-Fault-clause-made
returns-in_ok-fault-in-Fault-clause-made g c = made_lived c.args.now _ _ c.args.session.now c.step.new.self c.in-Fault.ensures.lifetime

pub returns-in_err-fault-in-Fault-clause-made : goal.returns-in_err-fault-in-Fault-clause-made
returns-in_err-fault-in-Fault-clause-made g c = made_lived c.args.now _ _ c.args.session.now c.step.new.self c.in-Fault.ensures.lifetime
