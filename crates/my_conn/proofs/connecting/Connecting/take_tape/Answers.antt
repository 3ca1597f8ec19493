use Rattle.std.proofs.Common.{Option, sym, subst}
use Rattle.my_client.specs.declared.tape.Tape.{Tape}
use Rattle.my_client.specs.Makes.{IsMaking}
use Rattle.my_conn.proofs.Making.{making_untaped}
use Rattle.my_conn.proofs.connecting.Connecting.take_tape.Goals as goal

pub invariant_of-self : goal.invariant_of-self
invariant_of-self g c =
    let v = c.self.inside in
    subst (λ (t : Option Tape). IsMaking v.at v.session.seen t) (sym c.take.ensures.after) (making_untaped v.at v.session.seen v.tape c.self.invariant)
