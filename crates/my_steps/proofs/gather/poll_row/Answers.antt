use Rattle.std.proofs.Common.{◌∙◌, refl}
use Rattle.std.proofs.lemmas.Result.{IfOk-weaker}
use Rattle.my_reading.specs.declared.call.CallKind.TheVariants.{NextRow}
use Rattle.my_steps.proofs.gather.poll_row.Goals as goal

pub returns-in-Some-clause-polled : goal.returns-in-Some-clause-polled
returns-in-Some-clause-polled g c = rw c.in-Some.is c.poll_kind.ensures.polled

pub returns-in-None-clause-polled : goal.returns-in-None-clause-polled
returns-in-None-clause-polled g c = rw c.in-None.is c.poll_kind-in-None.ensures.polled

pub returns-in-Some-clause-left : goal.returns-in-Some-clause-left
returns-in-Some-clause-left g c = IfOk-weaker c.poll_kind.result _ _ (λ p e. (c.in-Some.kind, e)) c.poll_kind.ensures.left

pub returns-in-None-clause-left : goal.returns-in-None-clause-left
returns-in-None-clause-left g c = IfOk-weaker c.poll_kind-in-None.result _ _ (λ p e. (NextRow, e)) c.poll_kind-in-None.ensures.left

pub poll_kind-requires : goal.poll_kind-requires
poll_kind-requires g c = c.requires ∙ c.in-Some.is

pub poll_kind-requires-in-None : goal.poll_kind-requires-in-None
poll_kind-requires-in-None g c = (c.requires ∙ c.in-None.is, refl, refl)
