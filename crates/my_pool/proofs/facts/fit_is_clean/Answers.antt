use Rattle.std.proofs.Common.{◌≡◌, Bool, true, false, ◌∙◌}
use Rattle.std.specs.Prelude.{◌||◌}
use Rattle.my_pool.proofs.facts.fit_is_clean.Goals as goal

second-false : (a b : Bool) → (a || b) ≡ false → b ≡ false
second-false true b e = absurd (cc)
second-false false b e = e

pub returns : goal.returns
returns g c =
    rw (← c.conn.ensures) (λ fit login k stands.
    (c.is_dirty.ensures.did login k stands).1 (second-false c.conn.result.now.lost c.conn.result.now.seen.closed fit.alive, c.is_dirty.ensures.value ∙ fit.clean))
