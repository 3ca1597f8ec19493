-- What became of the world of a run in which memory ran out.
use Rattle.std.specs.Prelude.{ℕ, ◌≡◌, ◌⊎◌, List, [], ◌∷◌, ◌++◌, length, Option, None, Bool, false}
use Rattle.my_grammar.specs.declared.login.Login.{Login}
use Rattle.my_link.specs.Looks.{Looks}
use Rattle.my_link.specs.declared.dialer.DialItem.{DialItem}
use Rattle.my_link.specs.World.{Back, DialCounts, Plans, SamePlans, WorldSeen}
use Rattle.my_script.specs.declared.step.Step.{Step}
use Rattle.my_steps.specs.declared.slot.Slot.{Slot}
use Rattle.my_steps.specs.Dialing.{AreDialed, Course, has_dialed}
use Rattle.my_steps.specs.Grows.{AreGrown, Line, handles_after}
use Rattle.my_steps.specs.Handle.{Handle}
use Rattle.my_steps.specs.Midst.{LeavesOthers, MayDial, number_of}
use Rattle.my_steps.specs.Slot.{handles_from}
use Rattle.my_run.specs.Headline.{EachExplained, steps_of}
use Rattle.my_run.specs.Tapes.{links_in, with_links}

-- of the steps that are left the first may have begun: its number, and whether it dials
abbrev pub number_next : List Step → List Handle → Option ℕ
number_next [] hs = None
number_next (step ∷ rest) hs = number_of step (length hs)

abbrev pub dials_next : List Step → List Handle → Bool
dials_next [] hs = false
dials_next (step ∷ rest) hs = has_dialed step hs

-- the link of this number
abbrev pub one_link : ℕ → Looks → List Back
one_link n x = record { number = n; looks = x } ∷ []

-- these links were handed back, or from one on it isn't told which
abbrev pub HandedBack : List Back → Option (List Back) → Option (List Back) → Type 0
HandedBack links old new = (new ≡ with_links links old) ⊎ (new ≡ None)

-- Steps were done, each as its line says, and one more may have begun. Memory ran out in it, or after all steps. It leaves all
-- numbers but its own, and each link was handed back.
pub record Stopped (later : Course) (login : Login) (plans : Plans) (before : Course) (steps : List Step) : Type 0 where
  -- the lines of the steps that were done, the newest first, and the steps that are left
  pub lines : List Line
  pub rest : List Step
  pub steps_are : steps_of lines ++ rest ≡ steps
  pub grown : AreGrown login plans lines
  pub explained : EachExplained login lines
  -- what the numbers stand for at the end
  pub handles : List Handle
  pub others : LeavesOthers (dials_next rest (handles_after lines)) (number_next rest (handles_after lines))
      (handles_after lines) handles
  -- the counts of the dials after the lines, and what had been handed back by the end of the last step
  pub counts : DialCounts
  pub back : Option (List Back)
  pub dialed : AreDialed before.dials lines counts
  pub tried : MayDial (dials_next rest (handles_after lines)) (number_next rest (handles_after lines)) counts later.dials
      before.back back
  -- each link was handed back
  pub ended : HandedBack (links_in 0 handles) back later.back

-- so far in a run over slots that still have their links, in a world that is `now`
pub record StoppedAt {L : Type 0} (look : L → Looks) (now : WorldSeen) (slots : List (Slot L)) (login : Login) (plans : Plans)
    (before : Course) (steps : List Step) : Type 0 where
  pub lines : List Line
  pub rest : List Step
  pub steps_are : steps_of lines ++ rest ≡ steps
  pub grown : AreGrown login plans lines
  pub explained : EachExplained login lines
  pub left : ℕ → Option (List DialItem)
  pub others : LeavesOthers (dials_next rest (handles_after lines)) (number_next rest (handles_after lines))
      (handles_after lines) (handles_from look left 0 slots)
  pub counts : DialCounts
  pub dialed : AreDialed before.dials lines counts
  pub tried : MayDial (dials_next rest (handles_after lines)) (number_next rest (handles_after lines)) counts now.dials
      before.back now.back

-- for all plans that are those which the world told
abbrev pub RunStopped : {L : Type 0} → (L → Looks) → Login → Plans → Course → WorldSeen → List Step → List (Slot L) → Type 0
RunStopped look login told before now steps slots = (plans : Plans) → SamePlans told plans
    → StoppedAt look now slots login plans before steps

abbrev pub StopsIn : Login → Plans → Course → Course → List Step → Type 0
StopsIn login told before later steps = (plans : Plans) → SamePlans told plans → Stopped later login plans before steps
