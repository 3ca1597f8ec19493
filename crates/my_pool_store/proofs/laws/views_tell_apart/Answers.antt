use Rattle.std.proofs.Common.{refl}
use Rattle.my_pool_store.proofs.laws.views_tell_apart.Goals as goal

pub returns-clause-waiting : goal.returns-clause-waiting
returns-clause-waiting c = refl

pub returns-clause-woken : goal.returns-clause-woken
returns-clause-woken c = refl

pub returns-clause-mixed : goal.returns-clause-mixed
returns-clause-mixed c = λ h. cc

pub returns-clause-left_out : goal.returns-clause-left_out
returns-clause-left_out c = λ h. cc
