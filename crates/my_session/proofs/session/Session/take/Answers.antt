use Rattle.std.proofs.Common.{sym, subst, ap, ◌∙◌}
use Rattle.my_machine.specs.declared.stand.Stand.{Stand}
use Rattle.my_machine.specs.Stands.{IsAt}
use Rattle.my_machine.proofs.Places.{at_taken_bytes}
use Rattle.my_session.proofs.session.Session.take.Goals as goal

pub invariant_of-self : goal.invariant_of-self
invariant_of-self c = λ alive.
    let here = c.self.invariant alive in
    let new_is = c.in-Ok.ensures.ok in
    record {
      at = (_, subst (IsAt c.self.inside.login _) (sym new_is) (at_taken_bytes c.self.inside.login here.at.0 c.self.inside.stand c.args.bytes.now here.at.1));
      account = ap (λ (s : Stand). s.account) new_is ∙ here.account;
    }
