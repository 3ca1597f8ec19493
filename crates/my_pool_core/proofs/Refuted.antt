-- The lists of events with a request that is given up, computed.
use Rattle.std.proofs.Common.{refl}
use Rattle.my_pool_core.specs.declared.event.PollAnswer.TheVariants.{Wait, Take, Dial}
use Rattle.my_pool_core.specs.Refuted.{Does, gives_wake_up, wake_given_up, gives_check_up, check_given_up}

pub handed-on : Does gives_wake_up (wake_given_up (Take 7))
handed-on = record {
  allowed = (refl, (refl, (refl, (refl, (refl, (refl, (refl, (refl, (refl, (refl, (refl, (refl, tt))))))))))));
  answered = refl;
}

pub let-go : Does gives_check_up (check_given_up (Dial 8))
let-go = record {
  allowed = (refl, (refl, (refl, (refl, (refl, (refl, (refl, (refl, (refl, (refl, (refl, tt)))))))))));
  answered = refl;
}

pub lost : Does gives_wake_up (wake_given_up Wait) → ⊥
lost h = cc h.answered

pub leaked : Does gives_check_up (check_given_up Wait) → ⊥
leaked h = cc h.answered
