use Rattle.std.proofs.Common.{sym, ap, ◌∙◌}
use Rattle.std.specs.Prelude.{find}
use Rattle.my_pool_parts.specs.Connections.{has_number}
use Rattle.my_pool_parts.proofs.Queues.{found-whole, nowhere}
use Rattle.my_pool_parts.proofs.connections.Connections.find.Goals as goal

pub returns-in-Some : goal.returns-in-Some
returns-in-Some c =
    let n = c.args.number in
    sym (found-whole n c.self.inside.arrivals.list c.in-Some.place (sym c.place.ensures ∙ c.in-Some.is))
    ∙ ap (λ s. find (has_number n) s.list) c.self.view_is

pub returns-in-None : goal.returns-in-None
returns-in-None c =
    let n = c.args.number in
    sym (nowhere n c.self.inside.arrivals.list (sym c.place.ensures ∙ c.in-None.is))
    ∙ ap (λ s. find (has_number n) s.list) c.self.view_is
