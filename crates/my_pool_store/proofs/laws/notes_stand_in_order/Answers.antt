use Rattle.std.proofs.Common.{refl, inl, inr}
use Rattle.my_pool_store.proofs.laws.notes_stand_in_order.Goals as goal

pub returns-clause-right : goal.returns-clause-right
returns-clause-right c = inr refl

pub returns-clause-cut : goal.returns-clause-cut
returns-clause-cut c = inl refl

pub returns-clause-left_out : goal.returns-clause-left_out
returns-clause-left_out c = λ h.
    elim h [
      | inl e ↦ cc
      | inr e ↦ cc
    ]

pub returns-clause-too_late : goal.returns-clause-too_late
returns-clause-too_late c = λ h. cc
