use Rattle.std.proofs.Common.{◌≡◌, true, refl, sym, subst}
use Rattle.std.specs.List.{list_any}
use Rattle.my_pool_parts.specs.Connections.{has_number}
use Rattle.my_pool_parts.specs.Arrived.{IsArrived}
use Rattle.my_pool_parts.proofs.Order.{there, arrived-left, counted-left}
use Rattle.my_pool_parts.proofs.arrivals.Arrivals.take_out.Goals as goal

pub invariant_of-self : goal.invariant_of-self
invariant_of-self c =
    let i = c.self.inside in
    let p = there c.args.number i.places c.self.invariant.apart (subst (λ a. list_any (has_number c.args.number) a.list ≡ true) (sym c.self.view_is) c.requires) in
    subst (λ es. IsArrived es i.next i.coming) (sym c.pop.ensures) (arrived-left c.args.number p.0 i.places i.next i.coming c.self.invariant p.1)

pub returns : goal.returns
returns c = rw c.pop.ensures (rw (counted-left c.args.number c.self.inside.places c.self.invariant.apart) (rw (sym c.self.view_is) refl))
