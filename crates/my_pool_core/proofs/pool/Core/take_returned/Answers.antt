use Rattle.std.proofs.Common.{sym, ap, ◌∙◌, arith}
use Rattle.my_pool_core.specs.contracts.pool.Core.{the_view}
use Rattle.my_pool_core.proofs.Keeping.{next-there, kept-next}
use Rattle.my_pool_core.proofs.pool.Core.take_returned.Goals as goal

pub move_to-requires : goal.move_to-requires
move_to-requires c =
    let found = sym c.next_to_clean.ensures ∙ c.in-Some.is in
    next-there (the_view c.self.inside) c.in-Some.next c.self.invariant.sound found

pub invariant_of-self : goal.invariant_of-self
invariant_of-self c =
    let found = sym c.next_to_clean.ensures ∙ c.in-Some.is in
    kept-next (the_view c.self.inside) _ _ _ _ _ c.in-Some.next c.self.invariant found (cc (ap (λ x. x.list) c.move_to.ensures, ap (λ x. x.next) c.move_to.ensures)) (omega (arith, ap (λ x. x.room) c.move_to.ensures)) (ap (λ x. x.coming) c.move_to.ensures)
