use Rattle.std.proofs.Common.{inl, inr, refl}
use Rattle.my_connect.proofs.dialed.give_up.Goals as goal

pub returns-in-Ok : goal.returns-in-Ok
returns-in-Ok g c = inl (
  refl,
  record {
    plans = c.in-Ok.ensures.plans;
    takes = c.in-Ok.ensures.takes;
    chance = c.in-Ok.ensures.chance;
    dials = c.in-Ok.ensures.dials;
    back = c.in-Ok.ensures.back;
  },
)

pub returns-in-Err : goal.returns-in-Err
returns-in-Err g c = inr (
  refl,
  record {
    plans = c.in-Err.ensures.plans;
    takes = c.in-Err.ensures.takes;
    chance = c.in-Err.ensures.chance;
    dials = c.in-Err.ensures.dials;
  },
)
