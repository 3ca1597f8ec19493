use Rattle.std.proofs.Common.{◌≡◌, refl, sym, ◌<◌, ◌+◌, ◌-◌, subst}
use Rattle.std.specs.Prelude.{find}
use Rattle.std.proofs.Common.{None}
use Rattle.my_pool_parts.specs.Connections.{has_number}
use Rattle.my_pool_parts.specs.Arrived.{IsArrived}
use Rattle.my_pool_parts.proofs.Order.{next-there, arrived-next, counted-coming, coming-absent}
use Rattle.my_pool_parts.proofs.arrivals.Arrivals.add.Goals as goal

pub invariant_of-self : goal.invariant_of-self
invariant_of-self c =
    let i = c.self.inside in
    subst (λ es. IsArrived es (i.next + 1) (i.coming - 1)) (sym c.put.ensures) (arrived-next c.args.place i.places i.next i.coming c.self.invariant (subst (λ a. 0 < a.coming) (sym c.self.view_is) c.requires))

pub returns-clause-arrives : goal.returns-clause-arrives
returns-clause-arrives c =
    let i = c.self.inside in
    let at = next-there i.places i.next i.coming c.self.invariant (subst (λ a. 0 < a.coming) (sym c.self.view_is) c.requires) in
    rw c.put.ensures (rw (counted-coming i.next i.places c.self.invariant.apart at) (rw (sym c.self.view_is) refl))

pub returns-clause-fresh : goal.returns-clause-fresh
returns-clause-fresh c =
    let i = c.self.inside in
    let at = next-there i.places i.next i.coming c.self.invariant (subst (λ a. 0 < a.coming) (sym c.self.view_is) c.requires) in
    subst (λ a. find (has_number a.next) a.list ≡ None) c.self.view_is (coming-absent i.next i.places c.self.invariant.apart at)
