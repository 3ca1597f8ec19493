use Rattle.my_pool_core.proofs.Placed.Allowing.{may-give-back, may-decide, may-done}
use Rattle.my_pool_core.proofs.laws.places_allow.Goals as goal

pub returns-clause-back : goal.returns-clause-back
returns-clause-back c = may-give-back

pub returns-clause-detach : goal.returns-clause-detach
returns-clause-detach c = may-give-back

pub returns-clause-decide : goal.returns-clause-decide
returns-clause-decide c = λ s number facts now e. may-decide s number e

pub returns-clause-done : goal.returns-clause-done
returns-clause-done c = λ s number ok facts now e. may-done s number ok e
