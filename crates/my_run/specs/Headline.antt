-- The theorem on a run.
use Rattle.std.specs.Prelude.{ℕ, ◌≡◌, List, [], ◌∷◌, ◌++◌, map}
use Rattle.my_grammar.specs.declared.login.Login.{Login}
use Rattle.my_link.specs.Looks.{Looks}
use Rattle.my_steps.specs.declared.slot.Slot.{Slot}
use Rattle.my_script.specs.declared.step.Step.{Step}
use Rattle.my_script.specs.declared.transcript.Outcome.{Outcome}
use Rattle.my_script.specs.declared.transcript.StepAnswer.{StepAnswer}
use Rattle.my_script.specs.declared.transcript.Tape.{Tape}
use Rattle.my_script.specs.declared.transcript.Use.{Use}
use Rattle.my_steps.specs.Dialing.{AreDialed, Course, moved_by}
use Rattle.my_steps.specs.Grows.{Line, AreGrown, handles_after}
use Rattle.my_steps.specs.Handle.{Handle, Absent, Dialing, Joined, at_number}
use Rattle.my_client.specs.Reads.{IsRead}
use Rattle.my_link.specs.World.{Plans, SamePlans, WorldSeen}
use Rattle.my_steps.specs.Keeps.{AreStood, AreAwaited}
use Rattle.my_steps.specs.Slot.{handles_in}
use Rattle.my_run.specs.Tapes.{all_in, links_at, tape_at, tape_view, with_links}

-- an answer, without where it lies in memory
pub record AnswerView : Type 0 where
  pub number : ℕ
  pub outcome : Outcome
  pub uses : List Use

abbrev pub answer_view : StepAnswer → AnswerView
answer_view a = record { number = a.number; outcome = a.outcome; uses = a.uses.items }

-- in order, of lines, the newest first
abbrev pub steps_of : List Line → List Step
steps_of [] = []
steps_of (l ∷ ls) = steps_of ls ++ l.step ∷ []

abbrev pub answers_of : List Line → List AnswerView
answers_of [] = []
answers_of (l ∷ ls) = answers_of ls ++ record { number = l.number; outcome = l.outcome; uses = l.uses } ∷ []

-- A connection at a number: each call of its tape ended, or is open, exactly as the one reading of the tape says.
abbrev pub IsExplained : Login → Handle → Type 0
IsExplained login Absent = Unit {0}
IsExplained login (Dialing left) = Unit {0}
IsExplained login (Joined there k x) = IsRead login k

-- so it holds at each number after each line
abbrev pub EachExplained : Login → List Line → Type 0
EachExplained login [] = Unit {0}
EachExplained login (l ∷ ls) = ((n : ℕ) → IsExplained login (at_number l.handles n)) × EachExplained login ls

-- What the steps came to, over a world with these plans, whose dials had these counts before them and after them, as the moment
-- and the random words were.
pub record Headline (login : Login) (plans : Plans) (before later : Course) (steps : List Step)
    (answers : List StepAnswer) (tapes : List Tape) : Type 0 where
  -- the transcript's lines, the newest first: one answer for each step
  pub lines : List Line
  pub steps_are : steps_of lines ≡ steps
  pub answered : map answer_view answers ≡ answers_of lines
  -- each answer is what the step may come to after the earlier ones, with its cause; what is left of a link's plan leads from
  -- line to line
  pub grown : AreGrown login plans lines
  -- a dial is said to have failed, or not to be ready, exactly where the world counted it
  pub dialed : AreDialed before.dials lines later.dials
  -- the moment and the random words are those that the steps made of the ones before
  pub moved : later.chance ≡ moved_by before.chance lines
  -- after each line each connection's calls, bytes and rows are explained
  pub explained : EachExplained login lines
  -- the tapes are what the connections kept
  pub tapes_are : map tape_view tapes ≡ all_in tape_at 0 (handles_after lines)
  -- each link was handed back as the last line left it, and no other link was dialed
  pub ended : later.back ≡ with_links (all_in links_at 0 (handles_after lines)) before.back

-- so far in a run, in a world that is `now`
pub record SoFar {L : Type 0} (look : L → Looks) (login : Login) (plans : Plans) (before : Course) (now : WorldSeen)
    (done : List Step) (slots : List (Slot L)) (answers : List StepAnswer) : Type 0 where
  pub lines : List Line
  pub steps_are : steps_of lines ≡ done
  pub answered : map answer_view answers ≡ answers_of lines
  pub handles_are : handles_in look now.plans slots ≡ handles_after lines
  pub stood : AreStood login slots
  -- of each link that is still to be dialed the world's plan is the one that was told
  pub awaited : AreAwaited plans now.plans 0 slots
  pub grown : AreGrown login plans lines
  pub dialed : AreDialed before.dials lines now.dials
  pub moved : now.chance ≡ moved_by before.chance lines
  pub explained : EachExplained login lines
  pub kept : now.back ≡ before.back

-- so it is for all plans that are those which the world told
abbrev pub RunSoFar : {L : Type 0} → (L → Looks) → Login → Plans → Course → WorldSeen → List Step → List (Slot L)
    → List StepAnswer → Type 0
RunSoFar look login told before now done slots answers = (plans : Plans) → SamePlans told plans
    → SoFar look login plans before now done slots answers

abbrev pub RunsTo : Login → Plans → Course → Course → List Step → List StepAnswer → List Tape → Type 0
RunsTo login told before later steps answers tapes = (plans : Plans) → SamePlans told plans
    → Headline login plans before later steps answers tapes
