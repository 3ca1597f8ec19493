use Rattle.std.proofs.Common.{◌==◌, length, sym, ap, ◌∙◌}
use Rattle.my_pool_parts.proofs.Filled.{joined-length}
use Rattle.my_pool_parts.proofs.levels.Levels.is_empty.Goals as goal

pub returns : goal.returns
returns g c = record { answer = ap (λ n. n == 0) (sym (joined-length c.self.inside.levels.items 1 c.self.inside.len c.self.invariant.0) ∙ ap (λ r. length r.items) c.self.view_is) }
