-- What is found of a whole transcript.
use Rattle.std.specs.Prelude.{◌≡◌, ◌≤◌, ◌<◌, ◌⊎◌, ◌+◌, ℕ, List, [], ◌∷◌, length, Option, Some, None, nat_lt, Bool, true, false, if◌then◌else◌}
use Rattle.my_grammar.specs.declared.login.Login.{Login}
use Rattle.my_script.specs.declared.step.Step.{Step}
use Rattle.my_script.specs.declared.step.Step.TheVariants.{Conn}
use Rattle.my_script.specs.declared.transcript.StepAnswer.{StepAnswer}
use Rattle.my_script.specs.declared.transcript.Tape.{Tape}
use Rattle.my_run_judge.specs.declared.judging.Found.{Found}
use Rattle.my_run_judge.specs.declared.judging.Found.TheVariants.{Right, Wrong}
use Rattle.my_run_judge.specs.Lines.{AreLines}
use Rattle.my_run_judge.specs.Made.{nothing_made}
use Rattle.my_run_judge.specs.Seen.{TapeSeen, nothing_seen, seen, seen_at}
use Rattle.my_run_judge.specs.Verdicts.{IsFound}
use Rattle.my_run_judge.specs.Walks.{start}

-- how many of the steps are `conn`
abbrev pub dialed_by : Step → ℕ
dialed_by Conn = 1
dialed_by step = 0

abbrev pub dialed_in : List Step → ℕ
dialed_in [] = 0
dialed_in (s ∷ ss) = dialed_by s + dialed_in ss

-- Each tape has a number from the first one on, below the second, and a call; numbers rise.
abbrev pub AreTapes : ℕ → ℕ → List Tape → Type 0
AreTapes first most [] = Unit {0}
AreTapes first most (t ∷ ts) =
    (first ≤ t.number) × (t.number < most) × (0 < length t.calls.items) × AreTapes (t.number + 1) most ts

-- The tapes are of numbers that were dialed, in order; and at each number the lines are right over its tape, or over nothing
-- where it has none. The number after those that were dialed means all that weren't.
pub record AreRight (login : Login) (steps : List Step) (answers : List StepAnswer) (tapes : List Tape) : Type 0 where
  pub numbered : AreTapes 0 (dialed_in steps) tapes
  pub each : (n : ℕ) → n < dialed_in steps + 1 → AreLines login n (seen_at n tapes) 0 nothing_made (start login n) steps answers

abbrev pub seen_as : Option Tape → TapeSeen
seen_as None = nothing_seen
seen_as (Some t) = seen t

-- what is found at a number
abbrev pub FoundAt : Login → List Step → List StepAnswer → List Tape → ℕ → Found → Type 0
FoundAt login steps answers tapes n found = IsFound login n (seen_at n tapes) steps answers found

-- nothing that is found at a number is before what is found of all
abbrev pub IsNotBefore : Found → Found → Type 0
IsNotBefore least Right = Unit {0}
IsNotBefore Right (Wrong line) = ⊥
IsNotBefore (Wrong least) (Wrong line) = least ≤ line

-- Of what is found at each number: what is found at this one isn't before the least;
pub record IsLeastAt (At : ℕ → Found → Type 0) (least : Found) (n : ℕ) : Type 0 where
  pub found : Found
  pub is : At n found
  pub not_before : IsNotBefore least found

-- and at one of the numbers below this one the line is the first wrong one.
pub record IsWrongBelow (At : ℕ → Found → Type 0) (line most : ℕ) : Type 0 where
  pub number : ℕ
  pub below : number < most
  pub is : At number (Wrong line)

abbrev pub IsOfANumber : (ℕ → Found → Type 0) → ℕ → Found → Type 0
IsOfANumber At most Right = Unit {0}
IsOfANumber At most (Wrong line) = IsWrongBelow At line most

-- what is found of all numbers below this one: at none of them anything before it, and itself at one of them
pub record IsFoundBelow (At : ℕ → Found → Type 0) (most : ℕ) (found : Found) : Type 0 where
  pub least : (n : ℕ) → n < most → IsLeastAt At found n
  pub somewhere : IsOfANumber At most found

abbrev pub earlier : Found → Found → Found
earlier Right other = other
earlier (Wrong line) Right = Wrong line
earlier (Wrong line) (Wrong second) = if nat_lt second line then Wrong second else Wrong line

-- what is found in the end, by whether the tapes are those of connections
abbrev pub with_tapes : Found → Bool → ℕ → Found
with_tapes Right true end = Right
with_tapes Right false end = Wrong end
with_tapes (Wrong line) numbered end = Wrong line

-- The first wrong line: at no number one before it is wrong, and at one number it is; or the lines are right, and the tapes aren't
-- those of connections, for which it is the number of lines.
pub record IsFirstWrong (login : Login) (steps : List Step) (answers : List StepAnswer) (tapes : List Tape) (line : ℕ)
    : Type 0 where
  pub wrong : IsWrongBelow (FoundAt login steps answers tapes) line (dialed_in steps + 1)
      ⊎ ((line ≡ length steps) × (AreTapes 0 (dialed_in steps) tapes → ⊥))
  pub least : (n : ℕ) → n < dialed_in steps + 1 → IsLeastAt (FoundAt login steps answers tapes) (Wrong line) n

-- The transcript is right; or this is its first wrong line.
abbrev pub IsFoundIn : Login → List Step → List StepAnswer → List Tape → Found → Type 0
IsFoundIn login steps answers tapes Right = AreRight login steps answers tapes
IsFoundIn login steps answers tapes (Wrong line) = IsFirstWrong login steps answers tapes line
