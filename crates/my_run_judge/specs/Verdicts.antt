-- What is found of a connection in a transcript.
use Rattle.std.specs.Prelude.{ℕ, List, []}
use Rattle.my_grammar.specs.declared.login.Login.{Login}
use Rattle.my_reading.specs.Place.{Place}
use Rattle.my_script.specs.declared.step.Step.{Step}
use Rattle.my_script.specs.declared.transcript.StepAnswer.{StepAnswer}
use Rattle.my_run_judge.specs.declared.made.Made.{Made}
use Rattle.my_run_judge.specs.Made.{nothing_made}
use Rattle.my_run_judge.specs.Seen.{TapeSeen}
use Rattle.my_run_judge.specs.declared.judging.Found.{Found}
use Rattle.my_run_judge.specs.declared.judging.Found.TheVariants.{Right, Wrong}
use Rattle.my_run_judge.specs.declared.walk.Walker.{Walker}
use Rattle.my_run_judge.specs.Does.{StandsAt, walk_of}
use Rattle.my_run_judge.specs.Lines.{AreLines, FirstWrong}
use Rattle.my_run_judge.specs.Walks.{Walk, start}

-- from a line on: all are right, or this one is the first that isn't
abbrev pub IsFoundFrom : Login → ℕ → TapeSeen → ℕ → Made → Walk → List Step → List StepAnswer → Found → Type 0
IsFoundFrom login n t k m w steps answers Right = AreLines login n t k m w steps answers
IsFoundFrom login n t k m w steps answers (Wrong line) = FirstWrong login n t line k m w steps answers

-- The lines are right at connection n, whose tape is this; or this one is the first that isn't.
abbrev pub IsFound : Login → ℕ → TapeSeen → List Step → List StepAnswer → Found → Type 0
IsFound login n t steps answers found = IsFoundFrom login n t 0 nothing_made (start login n) steps answers found

-- so it is found at the end, from each place where the program may be
abbrev pub EndsAs : Login → ℕ → TapeSeen → ℕ → Made → List StepAnswer → Walker → Found → Type 0
EndsAs login n t index m others c found = (p : Place) → StandsAt login p c.reader
    → IsFoundFrom login n t index m (walk_of p c) [] others found
