use Rattle.std.proofs.Common.{sym, ap, ◌∙◌, option_map}
use Rattle.std.specs.Prelude.{find}
use Rattle.my_pool_parts.specs.Connections.{has_number}
use Rattle.my_pool_parts.proofs.Order.{found, joined}
use Rattle.my_pool_parts.proofs.arrivals.Arrivals.place.Goals as goal

pub returns-in-Some : goal.returns-in-Some
returns-in-Some c =
    ap joined (sym c.in-Some.is ∙ c.peek.ensures) ∙ sym (found c.args.number c.self.inside.places c.self.invariant.apart)
    ∙ ap (λ a. option_map (λ d. d.place) (find (has_number c.args.number) a.list)) c.self.view_is

pub returns-in-None : goal.returns-in-None
returns-in-None c =
    ap joined (sym c.in-None.is ∙ c.peek.ensures) ∙ sym (found c.args.number c.self.inside.places c.self.invariant.apart)
    ∙ ap (λ a. option_map (λ d. d.place) (find (has_number c.args.number) a.list)) c.self.view_is
