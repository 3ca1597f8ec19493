-- The definitions of this crate accept right values, and refute wrong ones.
use Rattle.std.proofs.Common.{◌≡◌, ◌∙◌, true, false, refl, sym}
use Rattle.result_laws.specs.Tried.{ClosingIsTried}

no : true ≡ false → ⊥
no e = cc

pub closing_is_tried : {L : Type 0} → ClosingIsTried L
closing_is_tried {L} c d e rests unclosed shut = (
  (refl, rests),
  (λ w. no (sym shut ∙ w.0 ∙ unclosed)),
  (λ w. no (sym shut ∙ w.0 ∙ unclosed)),
  (λ w. no (sym w.0 ∙ unclosed)),
)
