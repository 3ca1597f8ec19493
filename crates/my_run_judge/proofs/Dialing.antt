-- The dials of a number: the items of a plan's lines, and the lines of a transcript, one after the other.
use Rattle.std.proofs.Common.{◌≡◌, inl, inr, ℕ, ◌+◌, List, [], ◌∷◌, ◌++◌, length, Bool, false, refl, sym, ap, ◌∙◌, subst, arith, append_assoc}
use Rattle.std.proofs.lemmas.List.{append-nil}
use Rattle.std.specs.Bool.{Decides}
use Rattle.my_link.specs.declared.dialer.DialItem.{DialItem}
use Rattle.my_run_judge.specs.declared.judging.Found.{Found}
use Rattle.my_run_judge.specs.declared.judging.Found.TheVariants.{Right, Wrong}
use Rattle.my_script.specs.declared.step.Step.{Step}
use Rattle.my_script.specs.declared.transcript.StepAnswer.{StepAnswer}
use Rattle.my_link.specs.declared.line.WorldLine.{WorldLine}
use Rattle.my_link.specs.Plan.{all_given, dials_of, given_to}
use Rattle.my_run_judge.specs.declared.plan.dials.DialSpot.{DialSpot}
use Rattle.my_run_judge.specs.declared.plan.dials.DialSpot.TheVariants.{Ahead}
use Rattle.my_run_judge.specs.Plan.Dials.{DialKept, DialsFound, LineDials, after_step, dials_now, items_after, left_by, spot_after}
use Rattle.my_run_judge.proofs.Keeping.{not_so}

-- the items so far, with those of the lines that are left
abbrev pub ItemsSo : ℕ → List WorldLine → List DialItem → List WorldLine → Type 0
ItemsSo n lines items left = items ++ all_given dials_of n left ≡ all_given dials_of n lines

pub items_more : (n : ℕ) (lines : List WorldLine) (items : List DialItem) (left : List WorldLine) (line : WorldLine) (later : List WorldLine) (new : List DialItem) → ItemsSo n lines items left → left ≡ line ∷ later
    → new ≡ items ++ given_to dials_of n line → ItemsSo n lines new later
items_more n lines items left line later new so e f = ap (λ (is : List DialItem). is ++ all_given dials_of n later) f
    ∙ append_assoc items (given_to dials_of n line) (all_given dials_of n later)
    ∙ subst (λ (ls : List WorldLine). items ++ all_given dials_of n ls ≡ all_given dials_of n lines) e so

pub items_all : (n : ℕ) (lines : List WorldLine) (items : List DialItem) (left : List WorldLine) → ItemsSo n lines items left → left ≡ [] → items ≡ all_given dials_of n lines
items_all n lines items left so e = sym (append-nil items) ∙ subst (λ (ls : List WorldLine). items ++ all_given dials_of n ls ≡ all_given dials_of n lines) e so

-- What is found of the dials from here on is found of the whole.
pub record DialsSo (n : ℕ) (first : List DialItem) (steps : List Step) (answers : List StepAnswer) (index : ℕ)
    (spot : DialSpot) (items : List DialItem) (left : List Step) (others : List StepAnswer) : Type 0 where
  pub rest : (v : Found) → DialsFound n index spot items left others v → DialsFound n 0 (Ahead n) first steps answers v
  pub all : index + length left ≡ length steps

pub dials_first : (n : ℕ) (first : List DialItem) (steps : List Step) (answers : List StepAnswer) → DialsSo n first steps answers 0 (Ahead n) first steps answers
dials_first n first steps answers = record { rest = λ v h. h; all = omega arith }

module _ (n : ℕ) (first : List DialItem) (steps : List Step) (answers : List StepAnswer) (index : ℕ) (spot : DialSpot) (items : List DialItem) (left : List Step) (others : List StepAnswer) (so : DialsSo n first steps answers index spot items left others) where
  finds : (xs : List Step) (ys : List StepAnswer) → left ≡ xs → others ≡ ys → (v : Found) → DialsFound n index spot items xs ys v → DialsFound n 0 (Ahead n) first steps answers v
  finds xs ys e f v h = so.rest v (subst (λ (zs : List Step). DialsFound n index spot items zs others v) (sym e) (subst (λ (zs : List StepAnswer). DialsFound n index spot items xs zs v) (sym f) h))

  pub dials_over : left ≡ [] → DialsFound n 0 (Ahead n) first steps answers Right
  dials_over e = finds [] others e refl Right tt

  module _ (s : Step) (later : List Step) (e : left ≡ s ∷ later) where
    pub dials_few : others ≡ [] → DialsFound n 0 (Ahead n) first steps answers Right
    dials_few f = finds (s ∷ later) [] e f Right tt

    module _ (a : StepAnswer) (more : List StepAnswer) (f : others ≡ a ∷ more) (dials : Bool) (d : dials ≡ dials_now n spot s) where
      kept : DialKept dials items a.uses.items → LineDials n spot items s a.uses.items
      kept = subst (λ (b : Bool). DialKept b items a.uses.items) d

      back : LineDials n spot items s a.uses.items → DialKept dials items a.uses.items
      back = subst (λ (b : Bool). DialKept b items a.uses.items) (sym d)

      pub dials_wrong : Decides false (DialKept dials items a.uses.items) → DialsFound n 0 (Ahead n) first steps answers (Wrong index)
      dials_wrong w = finds (s ∷ later) (a ∷ more) e f (Wrong index) (inl (refl, λ r. not_so _ w (back r)))

      extend : LineDials n spot items s a.uses.items → (v : Found) → DialsFound n (index + 1) (after_step n spot items s) (left_by n spot items s) later more v → DialsFound n index spot items (s ∷ later) (a ∷ more) v
      extend k Right h = (k, h)
      extend k (Wrong i) h = inr (k, h)

      pub dials_more : DialKept dials items a.uses.items → (new : DialSpot) → new ≡ spot_after n dials spot items s → (coming : List DialItem) → coming ≡ items_after dials items
          → DialsSo n first steps answers (index + 1) new coming later more
      dials_more k new g coming i =
          let spot_is : new ≡ after_step n spot items s = g ∙ ap (λ (b : Bool). spot_after n b spot items s) d in
          let items_are : coming ≡ left_by n spot items s = i ∙ ap (λ (b : Bool). items_after b items) d in
          record {
            rest = λ v h. finds (s ∷ later) (a ∷ more) e f v (extend (kept k) v
                (subst (λ (z : DialSpot). DialsFound n (index + 1) z (left_by n spot items s) later more v) spot_is
                (subst (λ (is : List DialItem). DialsFound n (index + 1) new is later more v) items_are h)));
            all = omega (arith, so.all, ap length e);
          }
