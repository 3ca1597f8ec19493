-- How the counts of a world's dials rise by what steps met, and how steps move its moment and its random words.
use Rattle.std.specs.Prelude.{◌≡◌, List, [], ◌∷◌, Option, Bool, true, false}
use Rattle.my_link.specs.Met.{nothing_met}
use Rattle.my_link.specs.declared.met.Met.{Met}
use Rattle.my_script.specs.declared.step.Step.{Step}
use Rattle.my_script.specs.declared.step.Step.TheVariants as steps
use Rattle.my_script.specs.declared.transcript.Use.{Use}
use Rattle.my_link.specs.World.{Back, DialCounts, Chance, WorldSeen, counted, drawn}
use Rattle.my_link.specs.declared.line.WorldLine.TheVariants as lines
use Rattle.my_link.specs.Plan.{chance_on}
use Rattle.my_steps.specs.Grows.{Line, handles_after}
use Rattle.my_steps.specs.Handle.{Handle, Absent, Dialing, Joined, at_number}

-- the dialer counted each dial that failed and each that wasn't ready, as they were met, and no other
pub record DialsTo (c d : DialCounts) (m : Met) : Type 0 where
  pub faults : d.faults ≡ counted m.faults c.faults
  pub holds : d.holds ≡ counted m.holds c.holds

abbrev pub is_dialing : Handle → Bool
is_dialing Absent = false
is_dialing (Dialing left) = true
is_dialing (Joined there k x) = false

-- whether a step dials: the first time for a new number, or again where the dial wasn't ready
abbrev pub has_dialed : Step → List Handle → Bool
has_dialed steps.Conn hs = true
has_dialed (steps.Poll n) hs = is_dialing (at_number hs n)
has_dialed _ hs = false

-- what the dial met: its use comes first
abbrev pub dial_met : Bool → List Use → Met
dial_met true (u ∷ us) = u.met
dial_met _ us = nothing_met

-- a dial draws a random word
abbrev pub chance_dialed : Bool → Chance → Chance
chance_dialed true chance = drawn chance
chance_dialed false chance = chance

-- what a step makes of the moment and of the random words, where it dials or doesn't
abbrev pub chance_by : Bool → Step → Chance → Chance
chance_by dials (steps.Advance by) chance = chance_on (lines.Advance by) chance
chance_by dials (steps.Random word) chance = chance_on (lines.Random word) chance
chance_by dials _ chance = chance_dialed dials chance

-- what lines, the newest of them first, make of those before them
abbrev pub moved_by : Chance → List Line → Chance
moved_by first [] = first
moved_by first (l ∷ ls) = chance_by (has_dialed l.step (handles_after ls)) l.step (moved_by first ls)

-- what of a world a run changes beside its plan
pub record Course : Type 0 where
  pub dials : DialCounts
  pub chance : Chance
  pub back : Option (List Back)

abbrev pub course_of : WorldSeen → Course
course_of world = record { dials = world.dials; chance = world.chance; back = world.back }

-- line by line, from the counts before the run to those after it
abbrev pub AreDialed : DialCounts → List Line → DialCounts → Type 0
AreDialed first [] now = now ≡ first
AreDialed first (l ∷ ls) now = (before : DialCounts) × AreDialed first ls before
    × DialsTo before now (dial_met (has_dialed l.step (handles_after ls)) l.uses)
