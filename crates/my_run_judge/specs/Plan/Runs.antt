-- What is found of a transcript and the lines of its plan.
use Rattle.std.specs.Prelude.{ℕ, ◌≡◌, ◌<◌, ◌⊎◌, List, [], ◌∷◌}
use Rattle.my_grammar.specs.declared.login.Login.{Login}
use Rattle.my_run_judge.specs.declared.judging.Found.{Found}
use Rattle.my_run_judge.specs.declared.judging.Found.TheVariants.{Right, Wrong}
use Rattle.my_run_judge.specs.Transcripts.{AreRight, IsFoundIn, IsLeastAt, IsNotBefore, IsWrongBelow, dialed_in, earlier}
use Rattle.my_script.specs.declared.step.Step.{Step}
use Rattle.my_script.specs.declared.transcript.StepAnswer.{StepAnswer}
use Rattle.my_script.specs.declared.transcript.Tape.{Tape}
use Rattle.my_link.specs.declared.line.WorldLine.{WorldLine}
use Rattle.my_run_judge.specs.Plan.Left.{first_left}
use Rattle.my_link.specs.Plan.{all_given, dials_of}
use Rattle.my_run_judge.specs.Plan.Dials.{DialsFound}
use Rattle.my_run_judge.specs.declared.plan.dials.DialSpot.TheVariants.{Ahead}
use Rattle.my_run_judge.specs.Plan.Lines.{LinkFound}
use Rattle.my_run_judge.specs.Plan.Planned.{planned}

-- what is found of the dials of number n
abbrev pub DialsAt : List WorldLine → List Step → List StepAnswer → ℕ → Found → Type 0
DialsAt lines steps answers n found = DialsFound n 0 (Ahead n) (all_given dials_of n lines) steps answers found

-- what is found at the link of a tape
abbrev pub TapeFound : List WorldLine → List StepAnswer → Tape → Found → Type 0
TapeFound lines answers t found =
    LinkFound t.number 0 (first_left (planned t.number lines) t.taken.items) answers found

abbrev pub EachKept : List WorldLine → List StepAnswer → List Tape → Type 0
EachKept lines answers [] = Unit {0}
EachKept lines answers (t ∷ ts) = TapeFound lines answers t Right × EachKept lines answers ts

-- The lines keep to the plan: the dials of each number wait, fail and give the link as it says, and at each link no more is
-- met than is planned.
pub record ArePlanned (lines : List WorldLine) (steps : List Step) (answers : List StepAnswer) (tapes : List Tape)
    : Type 0 where
  pub dials : (n : ℕ) → n < dialed_in steps → DialsAt lines steps answers n Right
  pub links : EachKept lines answers tapes

-- what is found at the link of a tape isn't before this
pub record LinkNotBefore (lines : List WorldLine) (answers : List StepAnswer) (least : Found) (t : Tape) : Type 0 where
  pub found : Found
  pub is : TapeFound lines answers t found
  pub not_before : IsNotBefore least found

abbrev pub EachNotBefore : List WorldLine → List StepAnswer → Found → List Tape → Type 0
EachNotBefore lines answers least [] = Unit {0}
EachNotBefore lines answers least (t ∷ ts) =
    LinkNotBefore lines answers least t × EachNotBefore lines answers least ts

-- at one of the links this line is the first wrong one
abbrev pub OneUnkept : List WorldLine → List StepAnswer → ℕ → List Tape → Type 0
OneUnkept lines answers line [] = ⊥
OneUnkept lines answers line (t ∷ ts) =
    TapeFound lines answers t (Wrong line) ⊎ OneUnkept lines answers line ts

abbrev pub SomewhereUnkept : List WorldLine → List StepAnswer → Found → List Tape → Type 0
SomewhereUnkept lines answers Right tapes = Unit {0}
SomewhereUnkept lines answers (Wrong line) tapes = OneUnkept lines answers line tapes

-- what is found of all links: at none of them anything before it, and itself at one of them
pub record LinksFound (lines : List WorldLine) (answers : List StepAnswer) (tapes : List Tape) (found : Found)
    : Type 0 where
  pub least : EachNotBefore lines answers found tapes
  pub somewhere : SomewhereUnkept lines answers found tapes

-- The first line that doesn't keep to the plan: a dial's, or one at a link, and none is before it.
pub record IsFirstUnplanned (lines : List WorldLine) (steps : List Step) (answers : List StepAnswer) (tapes : List Tape)
    (line : ℕ) : Type 0 where
  pub wrong : IsWrongBelow (DialsAt lines steps answers) line (dialed_in steps) ⊎ OneUnkept lines answers line tapes
  pub dials : (n : ℕ) → n < dialed_in steps → IsLeastAt (DialsAt lines steps answers) (Wrong line) n
  pub links : EachNotBefore lines answers (Wrong line) tapes

abbrev pub PlansFound : List WorldLine → List Step → List StepAnswer → List Tape → Found → Type 0
PlansFound lines steps answers tapes Right = ArePlanned lines steps answers tapes
PlansFound lines steps answers tapes (Wrong line) = IsFirstUnplanned lines steps answers tapes line

-- A transcript is right and keeps to the plan.
pub record IsRightRun (login : Login) (lines : List WorldLine) (steps : List Step) (answers : List StepAnswer)
    (tapes : List Tape) : Type 0 where
  pub right : AreRight login steps answers tapes
  pub planned : ArePlanned lines steps answers tapes

-- or this is the earlier one of the lines that are wrong in it, and by the plan
pub record IsFirstOfBoth (login : Login) (lines : List WorldLine) (steps : List Step) (answers : List StepAnswer)
    (tapes : List Tape) (line : ℕ) : Type 0 where
  pub transcript : Found
  pub transcript_is : IsFoundIn login steps answers tapes transcript
  pub plan : Found
  pub plan_is : PlansFound lines steps answers tapes plan
  pub line_is : earlier transcript plan ≡ Wrong line

abbrev pub RunFound : Login → List WorldLine → List Step → List StepAnswer → List Tape → Found → Type 0
RunFound login lines steps answers tapes Right = IsRightRun login lines steps answers tapes
RunFound login lines steps answers tapes (Wrong line) = IsFirstOfBoth login lines steps answers tapes line
