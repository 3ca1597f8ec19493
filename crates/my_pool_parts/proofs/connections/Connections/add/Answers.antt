use Rattle.std.proofs.Common.{◌<◌, ◌+◌, sym, ap, subst, length}
use Rattle.my_pool_parts.specs.Stored.{IsStored}
use Rattle.my_pool_parts.proofs.Queues.{stored-next}
use Rattle.my_pool_parts.proofs.connections.Connections.add.Goals as goal

pub invariant_of-self : goal.invariant_of-self
invariant_of-self c =
    let i = c.self.inside in
    let few = subst (λ s. length s.list < s.room) (sym c.self.view_is) c.requires.room in
    subst (λ cs. IsStored cs i.idle.items i.returned.items (i.count + 1) i.leased i.working i.room i.idle.room i.returned.room) (sym (ap (λ a. a.list) c.add.ensures.arrives))
    (stored-next i.arrivals.next i.arrivals.list _ _ _ _ _ _ _ _ c.self.invariant c.add.ensures.fresh few)
