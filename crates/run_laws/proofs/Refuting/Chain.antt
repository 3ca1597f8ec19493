-- The lines of a run, the oldest first.
use Rattle.std.proofs.Common.{◌≡◌, Bool, List, [], ◌∷◌, ◌++◌, length, refl, sym, subst, arith, Option}
use Rattle.my_statements.specs.Prepared.{StatementView}
use Rattle.my_grammar.specs.declared.login.Login.{Login}
use Rattle.my_script.specs.declared.aim.Aim.{Aim}
use Rattle.my_script.specs.declared.step.Step.{Step}
use Rattle.my_link.specs.World.{Plans}
use Rattle.my_steps.specs.Grows.{Line, StepGrows, AreGrown, handles_after}
use Rattle.my_steps.specs.Handle.{Handle}
use Rattle.my_run.specs.Headline.{AnswerView, steps_of, answers_of}

module _ (login : Login) (plans : Plans) where
  abbrev pub Chain : List Handle → List Step → List AnswerView → List Handle → Type 0
  Chain hs [] [] ts = ts ≡ hs
  Chain hs [] (a ∷ vs) ts = ⊥
  Chain hs (s ∷ ss) [] ts = ⊥
  Chain hs (s ∷ ss) (a ∷ vs) ts = (ms : List Handle) × ((there : Bool) × (aim : Aim) × (statement : Option StatementView) × StepGrows login plans there aim statement hs s a.outcome a.uses ms) × Chain ms ss vs ts

  chain_more : (hs : List Handle) (ss : List Step) (vs : List AnswerView) (ms : List Handle) (s : Step) (a : AnswerView) (ts : List Handle) → Chain hs ss vs ms → (there : Bool) (aim : Aim) (statement : Option StatementView) → StepGrows login plans there aim statement ms s a.outcome a.uses ts → Chain hs (ss ++ s ∷ []) (vs ++ a ∷ []) ts
  chain_more hs [] [] ms s a ts c there aim statement g = (ts, (there, aim, statement, subst (λ (xs : List Handle). StepGrows login plans there aim statement xs s a.outcome a.uses ts) c g), refl)
  chain_more hs [] (b ∷ vs) ms s a ts c there aim statement g = absurd c
  chain_more hs (x ∷ ss) [] ms s a ts c there aim statement g = absurd c
  chain_more hs (x ∷ ss) (b ∷ vs) ms s a ts c there aim statement g = (c.0, c.1, chain_more c.0 ss vs ms s a ts c.2 there aim statement g)

  pub grown_chain : (ls : List Line) → AreGrown login plans ls → Chain [] (steps_of ls) (answers_of ls) (handles_after ls)
  grown_chain [] w = refl
  grown_chain (l ∷ ls) w = chain_more [] (steps_of ls) (answers_of ls) (handles_after ls) l.step (record { number = l.number; outcome = l.outcome; uses = l.uses }) l.handles (grown_chain ls w.1) _ _ _ w.0.answer

  -- the last line apart
  pub chain_split : (hs : List Handle) (ss : List Step) (vs : List AnswerView) (s : Step) (a : AnswerView) (ts : List Handle) → length ss ≡ length vs → Chain hs (ss ++ s ∷ []) (vs ++ a ∷ []) ts → (ms : List Handle) × Chain hs ss vs ms × (there : Bool) × (aim : Aim) × (statement : Option StatementView) × StepGrows login plans there aim statement ms s a.outcome a.uses ts
  chain_split hs [] [] s a ts e c = (hs, refl, c.1.0, c.1.1, c.1.2, subst (λ (xs : List Handle). StepGrows login plans c.1.0 c.1.1 c.1.2 hs s a.outcome a.uses xs) (sym c.2) c.1.3)
  chain_split hs [] (b ∷ vs) s a ts e c = absurd (omega (arith, e))
  chain_split hs (x ∷ ss) [] s a ts e c = absurd (omega (arith, e))
  chain_split hs (x ∷ ss) (b ∷ vs) s a ts e c =
      let rest = chain_split c.0 ss vs s a ts (omega (arith, e)) c.2 in
      (rest.0, (c.0, c.1, rest.1), rest.2, rest.3, rest.4, rest.5)
