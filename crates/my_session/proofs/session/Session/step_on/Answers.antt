use Rattle.std.proofs.Common.{inl, Bool, Option, None, sym, subst}
use Rattle.my_session.specs.declared.answer.LinkFault.{LinkFault}
use Rattle.my_session.specs.Sessions.{StepsSo}
use Rattle.my_session.proofs.session.Session.step_on.Goals as goal

pub returns-in-Ok-clause-reads : goal.returns-in-Ok-clause-reads
returns-in-Ok-clause-reads c = λ o e.
    let s = c.args.self.now.seen in
    let new = c.stop_at.new.self.seen in
    subst (λ (f : Option LinkFault). StepsSo f s.closed o s new c.stop_at.result) (sym c.requires.sound)
    (subst (λ (b : Bool). StepsSo None b o s new c.stop_at.result) (sym c.requires.alive)
    (inl (record { kind = c.in-Ok.kind; stop = c.in-Ok.stop; mid = c.run.new.self.seen; ran = c.in-Ok.ensures.ran o e; halts = c.stop_at.ensures.halts })))
