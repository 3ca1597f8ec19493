-- What the judge of plans finds of a run over a world that told its plan.
use Rattle.std.specs.Prelude.{ℕ, ◌≡◌, List, [], Some, Bool, true}
use Rattle.my_grammar.specs.declared.login.Login.{Login}
use Rattle.my_link.specs.Items.{no_items}
use Rattle.my_link.specs.Planned.{PlannedItems, items_at}
use Rattle.my_script.specs.declared.step.Step.{Step}
use Rattle.my_script.specs.declared.transcript.StepAnswer.{StepAnswer}
use Rattle.my_script.specs.declared.transcript.Tape.{Tape}
use Rattle.my_link.specs.declared.line.WorldLine.{WorldLine}
use Rattle.my_link.specs.declared.mem_world.dials.PlannedDial.{PlannedDial}
use Rattle.my_link.specs.MemDials.{dials_at}
use Rattle.my_link.specs.MemWorld.{world_of}
use Rattle.my_link.specs.declared.mem_world.EndedLink.{EndedLink}
use Rattle.my_link.specs.Plan.{all_given, dials_of, items_of, writes_of}
use Rattle.my_link.specs.World.{Plans, DialCounts}
use Rattle.my_steps.specs.Dialing.{Course}
use Rattle.my_run.specs.Headline.{Headline}
use Rattle.my_run.specs.Tool.{plans_with}
use Rattle.my_run_judge.specs.Plan.Runs.{IsFirstOfBoth, IsRightRun}

-- the plans of all links and of their dials are those of these lines
pub record ArePlansOf (lines : List WorldLine) (plans : Plans) : Type 0 where
  pub reads : (n : ℕ) → plans.reads n ≡ Some (all_given items_of n lines)
  pub writes : (n : ℕ) → plans.writes n ≡ Some (all_given writes_of n lines)
  pub dials : (n : ℕ) → plans.dials n ≡ Some (all_given dials_of n lines)

-- The transcript of each run is right, and keeps to the plan.
abbrev pub EachPlannedRunIsRight : Type 0
EachPlannedRunIsRight = (login : Login) (plans : Plans) (before later : Course) (steps : List Step)
    (answers : List StepAnswer) (tapes : List Tape) (lines : List WorldLine) → ArePlansOf lines plans
    → Headline login plans before later steps answers tapes → IsRightRun login lines steps answers tapes

-- So a transcript of which a line is found wrong is one of no run.
abbrev pub EachPlannedRefusalRefutes : Type 0
EachPlannedRefusalRefutes = (login : Login) (lines : List WorldLine) (steps : List Step) (answers : List StepAnswer)
    (tapes : List Tape) (line : ℕ) → IsFirstOfBoth login lines steps answers tapes line
    → (plans : Plans) (before later : Course) → ArePlansOf lines plans
    → Headline login plans before later steps answers tapes → ⊥

-- A world in memory without items is handed these lines.
abbrev pub MemoryTells : Type 0
MemoryTells = (links : List PlannedItems) (dials : List PlannedDial) (counts : DialCounts) (moment : ℕ)
    (randoms : List ℕ) (ended : List EndedLink) (lost : Bool) (lines : List WorldLine) → ((n : ℕ) → items_at n links ≡ no_items)
    → ((n : ℕ) → dials_at n dials ≡ [])
    → ArePlansOf lines (plans_with true lines (world_of links dials counts moment randoms ended lost).plans)
