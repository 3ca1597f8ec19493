use Rattle.std.proofs.Common.{length, sym, ap, ◌∙◌, arith}
use Rattle.my_pool_parts.proofs.Filled.{joined-length, filled-room, room-small}
use Rattle.my_pool_parts.proofs.levels.Levels.len.Goals as goal

pub returns-clause-count : goal.returns-clause-count
returns-clause-count g c = sym (joined-length c.self.inside.levels.items 1 c.self.inside.len c.self.invariant.0) ∙ ap (λ r. length r.items) c.self.view_is

pub returns-clause-fits : goal.returns-clause-fits
returns-clause-fits g c = omega (arith, filled-room c.self.inside.levels.items c.self.inside.len c.self.invariant.0, ap (λ r. r.room) c.self.view_is)

pub returns-clause-small : goal.returns-clause-small
returns-clause-small g c = omega (arith, room-small (length c.self.inside.levels.items) c.self.invariant.1, ap (λ r. r.room) c.self.view_is)
