use Rattle.std.proofs.Common.{◌≡◌, false, subst, sym}
use Rattle.my_session.specs.Login.{account_in}
use Rattle.my_session.specs.View.{View}
use Rattle.my_session.proofs.Answering.{ran}
use Rattle.my_session.proofs.Keeping.{unread_after}
use Rattle.my_session.proofs.session.Session.run.Goals as goal

pub returns-in-Ok-clause-ran : goal.returns-in-Ok-clause-ran
returns-in-Ok-clause-ran c =
    let s = c.self.inside in
    let here = c.self.invariant (subst (λ (v : View). v.seen.closed ≡ false) (sym c.self.view_is) c.requires) in
    rw (← c.self.view_is) (ran s.login s.stand c.run-ran.new.stand (account_in s.opts) (account_in c.run-ran.new.opts) s.opened c.in-Some.open c.run-ran.new.opened s.closed s.ended s.fault
    c.kind-kind.result c.in-Ok.stop here.account (rw c.in-Ok.is at c.run-ran.ensures.account) c.in-Some.is c.run-ran.ensures.call c.kind-kind.ensures (rw c.in-Ok.is at c.run-ran.ensures.runs))

pub returns-in-Ok-clause-shorter : goal.returns-in-Ok-clause-shorter
returns-in-Ok-clause-shorter c =
    let s = c.self.inside in
    let here = c.self.invariant (subst (λ (v : View). v.seen.closed ≡ false) (sym c.self.view_is) c.requires) in
    rw (← c.self.view_is) (unread_after s.login c.in-Some.open.call c.in-Some.open.progress c.run-ran.new.opened.progress c.in-Ok.stop s.stand c.run-ran.new.stand here.at
    (rw c.in-Ok.is at c.run-ran.ensures.runs))
