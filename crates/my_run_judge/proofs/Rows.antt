-- The rows of a gathering, one after the other.
use Rattle.std.proofs.Common.{◌≡◌, List, [], ◌∷◌, Some, Ok, true, false, refl, sym, subst}
use Rattle.std.specs.Bool.{Decides}
use Rattle.my_value.specs.RowParts.{RowParts}
use Rattle.my_reading.specs.declared.answer.Answer.TheVariants as answers
use Rattle.my_script.specs.declared.transcript.TapeCall.{TapeCall}
use Rattle.my_run_judge.specs.Lines.{AreRows}
use Rattle.my_run_judge.proofs.Doing.{not_right}

-- these are rows of these calls exactly where all are
pub record RowsSo (rows : List RowParts) (cs : List TapeCall) (left : List RowParts) (others : List TapeCall) : Type 0 where
  pub all : AreRows left others → AreRows rows cs
  pub each : AreRows rows cs → AreRows left others

pub rows_first : (rows : List RowParts) (cs : List TapeCall) → RowsSo rows cs rows cs
rows_first rows cs = record { all = λ h. h; each = λ h. h }

module _ (rows : List RowParts) (cs : List TapeCall) (left : List RowParts) (others : List TapeCall) (so : RowsSo rows cs left others) where
  at_both : (ls : List RowParts) (os : List TapeCall) → left ≡ ls → others ≡ os → AreRows left others → AreRows ls os
  at_both ls os e f h = subst (λ (xs : List RowParts). AreRows xs os) e (subst (λ (ys : List TapeCall). AreRows left ys) f h)

  from_both : (ls : List RowParts) (os : List TapeCall) → left ≡ ls → others ≡ os → AreRows ls os → AreRows left others
  from_both ls os e f h = subst (λ (xs : List RowParts). AreRows xs others) (sym e) (subst (λ (ys : List TapeCall). AreRows ls ys) (sym f) h)

  pub too_few : (r : RowParts) (ls : List RowParts) → left ≡ r ∷ ls → others ≡ [] → Decides false (AreRows rows cs)
  too_few r ls e f = (λ same. absurd cc, λ h. absurd (at_both (r ∷ ls) [] e f (so.each h)))

  pub too_many : (c : TapeCall) (os : List TapeCall) → left ≡ [] → others ≡ c ∷ os → Decides false (AreRows rows cs)
  too_many c os e f = (λ same. absurd cc, λ h. absurd (at_both [] (c ∷ os) e f (so.each h)))

  pub all_rows : left ≡ [] → others ≡ [] → Decides true (AreRows rows cs)
  all_rows e f = (λ same. so.all (from_both [] [] e f tt), λ h. refl)

  module _ (r : RowParts) (c : TapeCall) (ls : List RowParts) (os : List TapeCall) (e : left ≡ r ∷ ls) (f : others ≡ c ∷ os) where
    pub other_row : Decides false (c.answer ≡ Some (Ok (answers.Row r))) → Decides false (AreRows rows cs)
    other_row d = (λ same. absurd cc, λ h. absurd (not_right _ d (at_both (r ∷ ls) (c ∷ os) e f (so.each h)).0))

    pub same_row : Decides true (c.answer ≡ Some (Ok (answers.Row r))) → RowsSo rows cs ls os
    same_row d = record {
      all = λ h. so.all (from_both (r ∷ ls) (c ∷ os) e f (d.0 refl, h));
      each = λ h. (at_both (r ∷ ls) (c ∷ os) e f (so.each h)).1;
    }
