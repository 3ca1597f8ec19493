-- The lines of a transcript, one after the other, at a link.
use Rattle.std.proofs.Common.{◌≡◌, inl, inr, ℕ, ◌+◌, List, [], ◌∷◌, length, false, refl, sym, ap, subst, arith}
use Rattle.std.specs.Bool.{Decides}
use Rattle.my_run_judge.specs.declared.judging.Found.{Found}
use Rattle.my_run_judge.specs.declared.judging.Found.TheVariants.{Right, Wrong}
use Rattle.my_script.specs.declared.transcript.StepAnswer.{StepAnswer}
use Rattle.my_run_judge.specs.declared.plan.left.Left.{Left}
use Rattle.my_run_judge.specs.Plan.Left.{AreKept, after_uses}
use Rattle.my_run_judge.specs.Plan.Lines.{LinkFound}
use Rattle.my_run_judge.proofs.Keeping.{not_so}

-- What is found at a link from here on is found of the whole.
pub record LinkSo (n : ℕ) (first : Left) (answers : List StepAnswer) (index : ℕ) (now : Left) (left : List StepAnswer)
    : Type 0 where
  pub rest : (v : Found) → LinkFound n index now left v → LinkFound n 0 first answers v
  pub all : index + length left ≡ length answers

pub link_first : (n : ℕ) (first : Left) (answers : List StepAnswer) → LinkSo n first answers 0 first answers
link_first n first answers = record { rest = λ v h. h; all = omega arith }

module _ (n : ℕ) (first : Left) (answers : List StepAnswer) (index : ℕ) (now : Left) (left : List StepAnswer) (so : LinkSo n first answers index now left) where
  finds : (xs : List StepAnswer) → left ≡ xs → (v : Found) → LinkFound n index now xs v → LinkFound n 0 first answers v
  finds xs e v h = so.rest v (subst (λ ys. LinkFound n index now ys v) (sym e) h)

  pub link_right : left ≡ [] → now.others ≡ 0 → LinkFound n 0 first answers Right
  link_right e h = finds [] e Right h

  pub link_over : left ≡ [] → (now.others ≡ 0 → ⊥) → LinkFound n 0 first answers (Wrong index)
  link_over e h = finds [] e (Wrong index) (refl, h)

  module _ (a : StepAnswer) (later : List StepAnswer) (e : left ≡ a ∷ later) where
    pub link_wrong : Decides false (AreKept n now a.uses.items) → LinkFound n 0 first answers (Wrong index)
    link_wrong d = finds (a ∷ later) e (Wrong index) (inl (refl, not_so _ d))

    extend : AreKept n now a.uses.items → (v : Found) → LinkFound n (index + 1) (after_uses n now a.uses.items) later v → LinkFound n index now (a ∷ later) v
    extend k Right h = (k, h)
    extend k (Wrong i) h = inr (k, h)

    pub link_more : AreKept n now a.uses.items → (new : Left) → new ≡ after_uses n now a.uses.items → LinkSo n first answers (index + 1) new later
    link_more k new f = record {
      rest = λ v h. finds (a ∷ later) e v (extend k v (subst (λ l. LinkFound n (index + 1) l later v) f h));
      all = omega (arith, so.all, ap length e);
    }
