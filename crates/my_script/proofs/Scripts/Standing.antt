-- Which steps stand in a script.
use Rattle.std.proofs.Common.{◌≡◌, ◌+◌, ◌==◌, ℕ, List, [], ◌∷◌, Option, Some, None, Bool, true, false, refl, sym, subst}
use Rattle.std.specs.List.{slice_split}
use Rattle.my_script.specs.declared.step.Step.{Step}
use Rattle.my_script.specs.declared.step.Step.TheVariants as steps
use Rattle.my_link.specs.declared.line.WorldLine.{WorldLine}
use Rattle.my_script.specs.declared.reading.item.Item.{Item}
use Rattle.my_script.specs.declared.reading.item.Item.TheVariants.{Nothing, Plans, Steps, Wrong}
use Rattle.my_script.specs.declared.reading.script.Sofar.{Sofar}
use Rattle.my_script.specs.Line.{line_of}
use Rattle.my_script.specs.Script.{Script, Good, Bad, front, with_item, on_line, admitted, admitted_moving, admitted_step, script_from, script_of, may_stand, StandsIn}

moving_stands : (plans : Bool) (s after : Sofar) → admitted_moving plans s ≡ Some after → plans ≡ true
moving_stands true s after e = refl
moving_stands false s after e = absurd (subst IsNone e tt)
  where
    IsNone : Option Sofar → Type 0
    IsNone None = Unit {0}
    IsNone (Some s) = ⊥

step_stands : (plans : Bool) (s after : Sofar) (step : Step) → admitted_step plans s step ≡ Some after → may_stand plans step ≡ true
step_stands plans s after (steps.Advance by) e = moving_stands plans s after e
step_stands plans s after (steps.Random word) e = moving_stands plans s after e
step_stands plans s after _ e = refl

line_before : (plans : Bool) (l : WorldLine) (more : Script) → StandsIn plans more → StandsIn plans (front (l ∷ []) [] more)
line_before plans l (Good ls ss) stands = stands
line_before plans l (Bad n text) stands = tt

step_before : (plans : Bool) (step : Step) (more : Script) → may_stand plans step ≡ true → StandsIn plans more → StandsIn plans (front [] (step ∷ []) more)
step_before plans step (Good ls ss) may stands = rw may stands
step_before plans step (Bad n text) may stands = tt

item_stands : (plans : Bool) (s after : Sofar) (item : Item) (more : Script) → admitted plans s item ≡ Some after → StandsIn plans more → StandsIn plans (with_item item more)
item_stands plans s after Nothing more e stands = stands
item_stands plans s after (Plans l) more e stands = line_before plans l more stands
item_stands plans s after (Steps step) more e stands = step_before plans step more (step_stands plans s after step e) stands
item_stands plans s after Wrong more e stands = stands

pub stands_from : (plans : Bool) (s : Sofar) (n : ℕ) (lines : List (List ℕ)) → StandsIn plans (script_from plans s n lines)
stands_from plans s n [] = refl
stands_from plans s n (l ∷ ls) = by_line (admitted plans s (line_of l)) refl (λ after. stands_from plans after (n + 1) ls)
  where
    by_line : (o : Option Sofar) → admitted plans s (line_of l) ≡ o → ((after : Sofar) → StandsIn plans (script_from plans after (n + 1) ls)) → StandsIn plans (on_line o n l (line_of l) (λ after. script_from plans after (n + 1) ls))
    by_line None e more = tt
    by_line (Some after) e more = item_stands plans s after (line_of l) (script_from plans after (n + 1) ls) e (more after)

-- so it is in a script that was read
pub stands_in : (plans : Bool) (bytes : List ℕ) (script : Script) → script ≡ script_of plans bytes → StandsIn plans script
stands_in plans bytes script e = subst (StandsIn plans) (sym e) (stands_from plans (record { stepped = false; conns = 0 }) 1 (slice_split (λ b. b == 10) bytes))
