-- When the lines of a transcript keep to the plan of a link.
use Rattle.std.specs.Prelude.{ℕ, ◌≡◌, ◌⊎◌, ◌+◌, List, [], ◌∷◌}
use Rattle.my_run_judge.specs.declared.judging.Found.{Found}
use Rattle.my_run_judge.specs.declared.judging.Found.TheVariants.{Right, Wrong}
use Rattle.my_script.specs.declared.transcript.StepAnswer.{StepAnswer}
use Rattle.my_run_judge.specs.declared.plan.left.Left.{Left}
use Rattle.my_run_judge.specs.Plan.Left.{AreKept, after_uses}

-- Each use of link n is planned, and at the end no byte of its tape is another than the plan's.
abbrev pub LinesKept : ℕ → Left → List StepAnswer → Type 0
LinesKept n left [] = left.others ≡ 0
LinesKept n left (a ∷ bs) = AreKept n left a.uses.items × LinesKept n (after_uses n left a.uses.items) bs

-- The first line with a use that isn't, counted from k; the number of lines stands for the end.
abbrev pub FirstUnkept : ℕ → ℕ → ℕ → Left → List StepAnswer → Type 0
FirstUnkept n line k left [] = (line ≡ k) × (left.others ≡ 0 → ⊥)
FirstUnkept n line k left (a ∷ bs) = ((line ≡ k) × (AreKept n left a.uses.items → ⊥))
    ⊎ (AreKept n left a.uses.items × FirstUnkept n line (k + 1) (after_uses n left a.uses.items) bs)

abbrev pub LinkFound : ℕ → ℕ → Left → List StepAnswer → Found → Type 0
LinkFound n k left answers Right = LinesKept n left answers
LinkFound n k left answers (Wrong line) = FirstUnkept n line k left answers
