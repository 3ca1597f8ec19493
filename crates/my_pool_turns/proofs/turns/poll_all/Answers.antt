use Rattle.std.proofs.Common.{[], ◌∷◌, refl}
use Rattle.my_pool_turns.proofs.turns.poll_all.Goals as goal

pub loop-number-init : goal.loop-number-init
loop-number-init g c = ([], (refl, refl))

pub loop-number-preserved : goal.loop-number-preserved
loop-number-preserved g c =
    let w = c.loop-number.invariant in (
      c.in-Some.number ∷ w.0,
      (refl, (c.loop-number.pool, c.loop-number.from, w.1, c.in-Some.ensures.next, c.poll_at.ensures)),
    )

pub returns : goal.returns
returns g c =
    let w = c.loop-number.invariant in
    record { numbers = w.0; from = c.loop-number.from; polls = w.1; none = c.in_default.ensures.next }
