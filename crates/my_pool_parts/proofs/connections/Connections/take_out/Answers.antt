use Rattle.std.proofs.Common.{◌≡◌, true, is_some, sym, ap, ◌∙◌, arith, subst}
use Rattle.std.specs.List.{list_any}
use Rattle.my_pool_parts.specs.Connections.{has_number}
use Rattle.my_frame.specs.Lists.{without}
use Rattle.my_pool_parts.specs.Stored.{stored}
use Rattle.my_frame.proofs.Finding.{without-unfound}
use Rattle.my_pool_parts.proofs.Queues.{any-where-some, none-where-not, some-placed}
use Rattle.my_pool_parts.proofs.connections.Connections.take_out.Goals as goal

pub take-requires : goal.take-requires
take-requires c =
    let cs = c.self.inside.arrivals.list in
    subst (λ s. list_any (has_number c.args.number) s.list ≡ true) c.self.view_is
    (any-where-some (has_number c.args.number) cs (some-placed (has_number c.args.number) cs ∙ sym (ap is_some c.place.ensures) ∙ sym c.is_some.ensures ∙ c.if-is_some.true))

pub returns-then-is_some-clause-small : goal.returns-then-is_some-clause-small
returns-then-is_some-clause-small c = omega (arith, c.self.invariant.small, ap (λ s. s.room) c.self.view_is)

pub returns-else-is_some-clause-small : goal.returns-else-is_some-clause-small
returns-else-is_some-clause-small c = omega (arith, c.self.invariant.small, ap (λ s. s.room) c.self.view_is)

pub returns-else-is_some-clause-state : goal.returns-else-is_some-clause-state
returns-else-is_some-clause-state c =
    let cs = c.self.inside.arrivals.list in
    let none = none-where-not (has_number c.args.number) cs (some-placed (has_number c.args.number) cs ∙ sym (ap is_some c.place.ensures) ∙ sym c.is_some.ensures ∙ c.if-is_some.false) in
    subst (λ s. s ≡ stored (without (has_number c.args.number) s.list) s.next s.coming s.room) c.self.view_is
    (ap (λ xs. stored xs c.self.inside.arrivals.next c.self.inside.arrivals.coming c.self.inside.room) (sym (without-unfound (has_number c.args.number) cs none)))
