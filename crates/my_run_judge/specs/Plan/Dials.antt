-- When the dials of a number are those of a plan.
use Rattle.std.specs.Prelude.{ℕ, ◌≡◌, ◌⊎◌, ◌+◌, ◌-◌, ◌==◌, List, [], ◌∷◌, drop, Bool, true, false, if◌then◌else◌}
use Rattle.my_link.specs.Met.{nothing_met}
use Rattle.my_link.specs.declared.dialer.DialItem.{DialItem}
use Rattle.my_link.specs.declared.dialer.DialItem.TheVariants.{Wait, Fail}
use Rattle.my_link.specs.declared.met.Met.{Met}
use Rattle.my_run_judge.specs.declared.judging.Found.{Found}
use Rattle.my_run_judge.specs.declared.judging.Found.TheVariants.{Right, Wrong}
use Rattle.my_script.specs.declared.step.Step.{Step}
use Rattle.my_script.specs.declared.step.Step.TheVariants.{Conn, Poll, Cancel}
use Rattle.my_script.specs.declared.transcript.StepAnswer.{StepAnswer}
use Rattle.my_script.specs.declared.transcript.Use.{Use}
use Rattle.my_run_judge.specs.declared.plan.dials.DialSpot.{DialSpot}
use Rattle.my_run_judge.specs.declared.plan.dials.DialSpot.TheVariants.{Ahead, Held, Over}

-- whether a step dials the link of number n: the `conn` that takes the number, or a `poll` of it while its dial is held
abbrev pub dials_now : ℕ → DialSpot → Step → Bool
dials_now n (Ahead k) Conn = k == 0
dials_now n (Ahead k) step = false
dials_now n Held (Poll m) = m == n
dials_now n Held step = false
dials_now n Over step = false

-- what a step that doesn't dial it leaves: another number is taken, or the held dial is dropped
abbrev pub passed : ℕ → DialSpot → Step → DialSpot
passed n (Ahead k) Conn = Ahead (k - 1)
passed n (Ahead k) step = Ahead k
passed n Held (Cancel m) = if m == n then Over else Held
passed n Held step = Held
passed n Over step = Over

-- what a dial meets by the first of the items that are left: one that waits is held, one that fails has a fault, and without
-- an item it gives the link
abbrev pub dial_meets : List DialItem → Met
dial_meets [] = nothing_met
dial_meets (Wait ∷ items) = record nothing_met { holds = 1 }
dial_meets (Fail ∷ items) = record nothing_met { faults = 1 }

abbrev pub dial_leaves : List DialItem → DialSpot
dial_leaves [] = Over
dial_leaves (Wait ∷ items) = Held
dial_leaves (Fail ∷ items) = Over

-- the dial's use stands first
abbrev pub FirstMet : Met → List Use → Type 0
FirstMet met [] = ⊥
FirstMet met (u ∷ us) = u.met ≡ met

-- a line that dials meets what the plan says
abbrev pub DialKept : Bool → List DialItem → List Use → Type 0
DialKept false items us = Unit {0}
DialKept true items us = FirstMet (dial_meets items) us

abbrev pub spot_after : ℕ → Bool → DialSpot → List DialItem → Step → DialSpot
spot_after n false spot items step = passed n spot step
spot_after n true spot items step = dial_leaves items

abbrev pub items_after : Bool → List DialItem → List DialItem
items_after false items = items
items_after true items = drop 1 items

-- a line keeps to the items of number n, and what it leaves of them
abbrev pub LineDials : ℕ → DialSpot → List DialItem → Step → List Use → Type 0
LineDials n spot items step us = DialKept (dials_now n spot step) items us

abbrev pub after_step : ℕ → DialSpot → List DialItem → Step → DialSpot
after_step n spot items step = spot_after n (dials_now n spot step) spot items step

abbrev pub left_by : ℕ → DialSpot → List DialItem → Step → List DialItem
left_by n spot items step = items_after (dials_now n spot step) items

-- Each dial of number n, in the lines that were answered, meets what the items say, in order.
abbrev pub DialsKept : ℕ → DialSpot → List DialItem → List Step → List StepAnswer → Type 0
DialsKept n spot items [] bs = Unit {0}
DialsKept n spot items (s ∷ ss) [] = Unit {0}
DialsKept n spot items (s ∷ ss) (a ∷ bs) = LineDials n spot items s a.uses.items
    × DialsKept n (after_step n spot items s) (left_by n spot items s) ss bs

-- The first line with a dial that doesn't, counted from k.
abbrev pub FirstUndialed : ℕ → ℕ → ℕ → DialSpot → List DialItem → List Step → List StepAnswer → Type 0
FirstUndialed n line k spot items [] bs = ⊥
FirstUndialed n line k spot items (s ∷ ss) [] = ⊥
FirstUndialed n line k spot items (s ∷ ss) (a ∷ bs) =
    ((line ≡ k) × (LineDials n spot items s a.uses.items → ⊥))
    ⊎ (LineDials n spot items s a.uses.items
    × FirstUndialed n line (k + 1) (after_step n spot items s) (left_by n spot items s) ss bs)

abbrev pub DialsFound : ℕ → ℕ → DialSpot → List DialItem → List Step → List StepAnswer → Found → Type 0
DialsFound n k spot items steps answers Right = DialsKept n spot items steps answers
DialsFound n k spot items steps answers (Wrong line) = FirstUndialed n line k spot items steps answers
