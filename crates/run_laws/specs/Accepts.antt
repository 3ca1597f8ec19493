-- What the judge of transcripts finds of a run.
use Rattle.std.specs.Prelude.{ℕ, List}
use Rattle.my_grammar.specs.declared.login.Login.{Login}
use Rattle.my_script.specs.declared.step.Step.{Step}
use Rattle.my_script.specs.declared.transcript.StepAnswer.{StepAnswer}
use Rattle.my_script.specs.declared.transcript.Tape.{Tape}
use Rattle.my_link.specs.World.{Plans}
use Rattle.my_steps.specs.Dialing.{Course}
use Rattle.my_run.specs.Headline.{Headline}
use Rattle.my_run_judge.specs.Transcripts.{AreRight, IsFirstWrong}

-- The transcript of each run is right, for whatever plans and counts of dials.
abbrev pub EachRunIsRight : Type 0
EachRunIsRight = (login : Login) (plans : Plans) (before later : Course) (steps : List Step) (answers : List StepAnswer) (tapes : List Tape)
    → Headline login plans before later steps answers tapes → AreRight login steps answers tapes

-- So a transcript of which a line is found wrong is one of no run.
abbrev pub EachRefusalRefutes : Type 0
EachRefusalRefutes = (login : Login) (steps : List Step) (answers : List StepAnswer) (tapes : List Tape) (line : ℕ)
    → IsFirstWrong login steps answers tapes line
    → (plans : Plans) (before later : Course) → Headline login plans before later steps answers tapes → ⊥
