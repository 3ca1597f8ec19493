-- The lines of a transcript, one after the other.
use Rattle.std.proofs.Common.{◌≡◌, inl, inr, ℕ, ◌+◌, List, [], ◌∷◌, length, Bool, true, false, refl, sym, ap, subst, arith}
use Rattle.my_grammar.specs.declared.login.Login.{Login}
use Rattle.my_reading.specs.Place.{Place, first_place}
use Rattle.my_script.specs.declared.step.Step.{Step}
use Rattle.my_script.specs.declared.transcript.StepAnswer.{StepAnswer}
use Rattle.my_run_judge.specs.declared.made.Made.{Made}
use Rattle.my_run_judge.specs.Made.{made_by, nothing_made}
use Rattle.my_run_judge.specs.Seen.{TapeSeen}
use Rattle.my_run_judge.specs.declared.judging.Found.{Found}
use Rattle.my_run_judge.specs.declared.judging.Found.TheVariants.{Right, Wrong}
use Rattle.my_run_judge.specs.declared.walk.Walker.{Walker}
use Rattle.my_run_judge.specs.Does.{Done, IsOverAt, IsSomewhere, IsStart, StandsAt, walk_of}
use Rattle.my_run_judge.specs.Lines.{LineRight, after_line}
use Rattle.my_run_judge.specs.Verdicts.{EndsAs, IsFound, IsFoundFrom}
use Rattle.my_run_judge.specs.Walks.{Walk}
use Rattle.my_run_judge.proofs.Doing.{not_right}

-- What is found from here on is found of the whole.
pub record Judged (login : Login) (n : ℕ) (t : TapeSeen) (steps : List Step) (answers : List StepAnswer) (index : ℕ) (made : Made)
    (c : Walker) (ss : List Step) (bs : List StepAnswer) : Type 0 where
  pub place : Place
  pub at : StandsAt login place c.reader
  pub rest : (v : Found) → IsFoundFrom login n t index made (walk_of place c) ss bs v → IsFound login n t steps answers v
  pub all : index + length ss ≡ length steps

pub at_start : (login : Login) (n : ℕ) (t : TapeSeen) (steps : List Step) (answers : List StepAnswer) (c : Walker) → IsStart login n c
    → Judged login n t steps answers 0 nothing_made c steps answers
at_start login n t steps answers c s = record {
  place = first_place login;
  at = s.at;
  rest = λ v h. subst (λ (w : Walk). IsFoundFrom login n t 0 nothing_made w steps answers v) s.walk_is h;
  all = omega arith;
}

module _ (login : Login) (n : ℕ) (t : TapeSeen) (steps : List Step) (answers : List StepAnswer) (index : ℕ) (made : Made)
    (c : Walker) (ss : List Step) (bs : List StepAnswer) (j : Judged login n t steps answers index made c ss bs) where
  abbrev w : Walk
  w = walk_of j.place c

  pub somewhere : IsSomewhere login c
  somewhere = (j.place, j.at)

  -- what is found of these lines is found of the whole
  finds : (xs : List Step) (ys : List StepAnswer) → ss ≡ xs → bs ≡ ys → (v : Found) → IsFoundFrom login n t index made w xs ys v → IsFound login n t steps answers v
  finds xs ys e f v h = j.rest v (subst (λ (zs : List Step). IsFoundFrom login n t index made w zs bs v) (sym e) (subst (λ (zs : List StepAnswer). IsFoundFrom login n t index made w xs zs v) (sym f) h))

  -- there are no more answers
  pub too_few : (s : Step) (xs : List Step) → ss ≡ s ∷ xs → bs ≡ [] → IsFound login n t steps answers (Wrong index)
  too_few s xs e f = finds (s ∷ xs) [] e f (Wrong index) refl

  module _ (s : Step) (xs : List Step) (a : StepAnswer) (ys : List StepAnswer) (e : ss ≡ s ∷ xs) (f : bs ≡ a ∷ ys) (new : Walker) where
    abbrev LineDone : Bool → Type 0
    LineDone right = Done login (λ v. LineRight login n t index made v s a) (λ v. after_line login n t made v s a) w right new

    pub refutes : LineDone false → IsFound login n t steps answers (Wrong index)
    refutes d = finds (s ∷ xs) (a ∷ ys) e f (Wrong index) (inl (refl, not_right _ d.right_is))

    extend : LineRight login n t index made w s a → (v : Found) → IsFoundFrom login n t (index + 1) (made_by n made s a.outcome) (after_line login n t made w s a) xs ys v → IsFoundFrom login n t index made w (s ∷ xs) (a ∷ ys) v
    extend l Right h = (l, h)
    extend l (Wrong i) h = inr (l, h)

    pub goes_on : LineDone true → Judged login n t steps answers (index + 1) (made_by n made s a.outcome) new xs ys
    goes_on d = let there = d.after refl in record {
      place = (after_line login n t made w s a).place;
      at = there.at;
      rest = λ v h. finds (s ∷ xs) (a ∷ ys) e f v (extend (d.right_is.0 refl) v (subst (λ (x : Walk). IsFoundFrom login n t (index + 1) (made_by n made s a.outcome) x xs ys v) there.walk_is h));
      all = omega (arith, j.all, ap length e);
    }

  -- what is found at the end
  pub ends : ss ≡ [] → (v : Found) → IsFoundFrom login n t index made w [] bs v → IsFound login n t steps answers v
  ends e v h = finds [] bs e refl v h

module _ (login : Login) (n : ℕ) (t : TapeSeen) (index : ℕ) (made : Made) (c : Walker) (bs : List StepAnswer) (e : bs ≡ []) where
  pub over_right : IsOverAt login t c true → EndsAs login n t index made bs c Right
  over_right o p at = subst (λ (zs : List StepAnswer). IsFoundFrom login n t index made (walk_of p c) [] zs Right) (sym e) ((o p at).0 refl)

  pub over_wrong : IsOverAt login t c false → EndsAs login n t index made bs c (Wrong index)
  over_wrong o p at = subst (λ (zs : List StepAnswer). IsFoundFrom login n t index made (walk_of p c) [] zs (Wrong index)) (sym e) (refl, not_right _ (o p at))
