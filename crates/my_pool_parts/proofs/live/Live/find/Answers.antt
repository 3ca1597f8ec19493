use Rattle.std.proofs.Common.{ap, ◌∙◌}
use Rattle.std.specs.Prelude.{find}
use Rattle.std.specs.Option.{option_map}
use Rattle.my_pool_parts.specs.declared.seat.Seat.{Seat}
use Rattle.my_pool_parts.specs.Requests.{has_age}
use Rattle.my_pool_parts.proofs.Seats.{found-in}
use Rattle.my_pool_parts.proofs.live.Live.find.Goals as goal

pub returns-in-Some : goal.returns-in-Some
returns-in-Some c = ap (option_map (λ (s : Seat). s.request)) c.in-Some.ensures.value ∙ found-in c.args.age c.self.inside.seats.entries c.self.invariant.keyed ∙ ap (find (has_age c.args.age)) c.self.view_is

pub returns-in-None : goal.returns-in-None
returns-in-None c = ap (option_map (λ (s : Seat). s.request)) c.in-None.ensures.value ∙ found-in c.args.age c.self.inside.seats.entries c.self.invariant.keyed ∙ ap (find (has_age c.args.age)) c.self.view_is
