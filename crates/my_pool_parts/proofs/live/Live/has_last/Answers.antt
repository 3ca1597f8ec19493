use Rattle.std.proofs.Common.{ap, ◌∙◌}
use Rattle.std.specs.List.{list_any}
use Rattle.my_pool_parts.specs.Requests.{has_age, last_age}
use Rattle.my_pool_parts.proofs.Seats.{any-in}
use Rattle.my_pool_parts.proofs.live.Live.has_last.Goals as goal

pub returns : goal.returns
returns c = c.contains_key.ensures ∙ any-in last_age c.self.inside.seats.entries c.self.invariant.keyed ∙ ap (list_any (has_age last_age)) c.self.view_is
