-- What a step's order is.
use Rattle.std.proofs.Common.{◌≡◌, List, [], ◌++◌, ◌&&◌, ◌==◌, Bool, true, false, if◌then◌else◌, Option, Some, None, option_map, Result, Ok, Err, OnOk, refl, sym, ap, ◌∙◌, subst, arith}
use Rattle.std.proofs.lemmas.List.{append-nil}
use Rattle.my_statements.specs.Prepared.{StatementView}
use Rattle.my_grammar.specs.declared.login.Login.{Login}
use Rattle.my_link.specs.Looks.{Looks}
use Rattle.my_link.specs.declared.line.WorldLine.{WorldLine}
use Rattle.my_link.specs.declared.line.WorldLine.TheVariants as lines
use Rattle.my_link.specs.Plan.{plans_on}
use Rattle.my_link.specs.World.{Plans, SamePlans, Chance, DialCounts}
use Rattle.my_script.specs.Script.{may_stand}
use Rattle.my_script.specs.declared.aim.Aim.{Aim}
use Rattle.my_script.specs.declared.step.Step.{Step}
use Rattle.my_script.specs.declared.step.Step.TheVariants as steps
use Rattle.my_script.specs.declared.transcript.Outcome.{Outcome}
use Rattle.my_script.specs.declared.transcript.Outcome.TheVariants.{Done}
use Rattle.my_script.specs.declared.transcript.Use.{Use}
use Rattle.my_steps.specs.declared.outcome.StepResult.{StepResult}
use Rattle.my_steps.specs.declared.slot.Slot.{Slot}
use Rattle.my_script.specs.declared.action.Action.{Action}
use Rattle.my_steps.specs.Dialing.{DialsTo, chance_by, chance_dialed, dial_met, has_dialed, is_dialing}
use Rattle.my_script.specs.Actions.{action_of}
use Rattle.my_steps.specs.Did.{IsMoving, Stepped, StepsOn}
use Rattle.my_steps.specs.Orders.{MayCarry, chance_of, dials_by}
use Rattle.my_steps.specs.Grows.{ActionGrows, Moves, StepGrows}
use Rattle.my_steps.specs.Handle.{Handle, at_number}
use Rattle.my_steps.specs.Keeps.{AreStood, AreAwaited}
use Rattle.my_steps.specs.Slot.{handles_in}
use Rattle.my_steps.proofs.Working.Awaiting.{awaited_from, handles_same}

-- an order may be carried out
pub may_carry : (takes found : Bool) (aim : Aim) (named : Option StatementView) (step : Step) → may_stand takes step ≡ true → MayCarry takes (action_of found aim named step)
may_carry takes found aim named (steps.Advance by) e = (e, tt)
may_carry takes found aim named (steps.Random word) e = (e, tt)
may_carry takes found aim named steps.Conn e = tt
may_carry takes found aim named (steps.Query n text) e = refl
may_carry takes found aim named (steps.Prepare n text) e = refl
may_carry takes found aim (Some s) (steps.Execute n number params) e = refl
may_carry takes found aim None (steps.Execute n number params) e = tt
may_carry takes found aim (Some s) (steps.CloseStatement n number) e = refl
may_carry takes found aim None (steps.CloseStatement n number) e = tt
may_carry takes found aim named (steps.Next n) e = tt
may_carry takes found aim named (steps.Collect n) e = tt
may_carry takes found aim named (steps.Drop n) e = refl
may_carry takes found aim named (steps.Ping n) e = refl
may_carry takes found aim named (steps.Reset n) e = refl
may_carry takes found aim named (steps.User n change) e = refl
may_carry takes found aim named (steps.Begin n opts) e = refl
may_carry takes found aim named (steps.Quit n) e = refl
may_carry takes found aim named (steps.Stream n) e = tt
may_carry takes found aim named (steps.Fields n) e = tt
may_carry takes found aim named (steps.Cancel n) e = tt
may_carry takes found aim named (steps.Poll n) e = tt
may_carry takes true aim named (steps.Item n) e = tt
may_carry takes false aim named (steps.Item n) e = tt
may_carry takes true aim named (steps.Unstream n) e = tt
may_carry takes false aim named (steps.Unstream n) e = tt
may_carry takes true aim named (steps.Commit n) e = refl
may_carry takes false aim named (steps.Commit n) e = tt
may_carry takes true aim named (steps.Rollback n) e = refl
may_carry takes false aim named (steps.Rollback n) e = tt
may_carry takes true aim named (steps.ForgetTransaction n) e = refl
may_carry takes false aim named (steps.ForgetTransaction n) e = tt

and_false : (b : Bool) → b && false ≡ false
and_false true = refl
and_false false = refl

and_true : (b : Bool) → b && true ≡ b
and_true true = refl
and_true false = refl

-- whether it dials
pub dials_is : (found : Bool) (aim : Aim) (named : Option StatementView) (step : Step) (hs : List Handle) → dials_by (action_of found aim named step) hs ≡ has_dialed step hs
dials_is found aim named steps.Conn hs = refl
dials_is found aim named (steps.Query n text) hs = and_false (is_dialing (at_number hs n))
dials_is found aim named (steps.Prepare n text) hs = and_false (is_dialing (at_number hs n))
dials_is found aim (Some s) (steps.Execute n number params) hs = and_false (is_dialing (at_number hs n))
dials_is found aim None (steps.Execute n number params) hs = and_false (is_dialing (at_number hs n))
dials_is found aim (Some s) (steps.CloseStatement n number) hs = and_false (is_dialing (at_number hs n))
dials_is found aim None (steps.CloseStatement n number) hs = and_false (is_dialing (at_number hs n))
dials_is found aim named (steps.Next n) hs = and_false (is_dialing (at_number hs n))
dials_is found aim named (steps.Collect n) hs = and_false (is_dialing (at_number hs n))
dials_is found aim named (steps.Drop n) hs = and_false (is_dialing (at_number hs n))
dials_is found aim named (steps.Ping n) hs = and_false (is_dialing (at_number hs n))
dials_is found aim named (steps.Reset n) hs = and_false (is_dialing (at_number hs n))
dials_is found aim named (steps.User n change) hs = and_false (is_dialing (at_number hs n))
dials_is found aim named (steps.Begin n opts) hs = and_false (is_dialing (at_number hs n))
dials_is found aim named (steps.Quit n) hs = and_false (is_dialing (at_number hs n))
dials_is found aim named (steps.Stream n) hs = and_false (is_dialing (at_number hs n))
dials_is found aim named (steps.Fields n) hs = and_false (is_dialing (at_number hs n))
dials_is found aim named (steps.Cancel n) hs = and_false (is_dialing (at_number hs n))
dials_is found aim named (steps.Poll n) hs = and_true (is_dialing (at_number hs n))
dials_is found aim named (steps.Advance by) hs = refl
dials_is found aim named (steps.Random word) hs = refl
dials_is true aim named (steps.Item n) hs = and_false (is_dialing (at_number hs n))
dials_is false aim named (steps.Item n) hs = and_false (is_dialing (at_number hs n))
dials_is true aim named (steps.Unstream n) hs = and_false (is_dialing (at_number hs n))
dials_is false aim named (steps.Unstream n) hs = and_false (is_dialing (at_number hs n))
dials_is true aim named (steps.Commit n) hs = and_false (is_dialing (at_number hs n))
dials_is false aim named (steps.Commit n) hs = and_false (is_dialing (at_number hs n))
dials_is true aim named (steps.Rollback n) hs = and_false (is_dialing (at_number hs n))
dials_is false aim named (steps.Rollback n) hs = and_false (is_dialing (at_number hs n))
dials_is true aim named (steps.ForgetTransaction n) hs = and_false (is_dialing (at_number hs n))
dials_is false aim named (steps.ForgetTransaction n) hs = and_false (is_dialing (at_number hs n))

pub chance_is : (found : Bool) (aim : Aim) (named : Option StatementView) (step : Step) (hs : List Handle) (c : Chance) → chance_of (action_of found aim named step) hs c ≡ chance_by (has_dialed step hs) step c
chance_is found aim named (steps.Advance by) hs c = refl
chance_is found aim named (steps.Random word) hs c = refl
chance_is found aim named step hs c = ap (λ b. chance_dialed b c) (dials_is found aim named step hs)

-- a line that gives no link anything leaves the plans
with_none : {X : Type 0} (t : Bool) (p q : Option (List X)) → q ≡ option_map (λ xs. xs ++ (if t then [] else [])) p → q ≡ p
with_none true None q e = e
with_none false None q e = e
with_none true (Some xs) q e = e ∙ ap Some (append-nil xs)
with_none false (Some xs) q e = e ∙ ap Some (append-nil xs)

pub moved_plans : (line : WorldLine) (before later : Plans) → IsMoving line → SamePlans (plans_on line before) later → SamePlans before later
moved_plans (lines.Advance by) before later is same n = record { reads = with_none (0 == n) (before.reads n) (later.reads n) (same n).reads; writes = with_none (0 == n) (before.writes n) (later.writes n) (same n).writes; dials = with_none (0 == n) (before.dials n) (later.dials n) (same n).dials }
moved_plans (lines.Random word) before later is same n = record { reads = with_none (0 == n) (before.reads n) (later.reads n) (same n).reads; writes = with_none (0 == n) (before.writes n) (later.writes n) (same n).writes; dials = with_none (0 == n) (before.dials n) (later.dials n) (same n).dials }
moved_plans line before later is same n = absurd is

-- a step that moves the world
pub stepped_moved : {L : Type 0} (look : L → Looks) (login : Login) (plans before later : Plans) (o : Outcome) (us : List Use) (ss : List (Slot L)) → SamePlans before later → o ≡ Done → us ≡ [] → AreAwaited plans before 0 ss → AreStood login ss → Stepped login ss ss (AreAwaited plans later 0 ss × Moves (handles_in look before ss) o us (handles_in look later ss))
stepped_moved look login plans before later o us ss same e f awaited st = record {
  stood = st;
  longer = omega arith;
  grows = (awaited_from plans before later 0 ss (λ m le. same m) awaited, record { outcome = e; uses = f; same = handles_same look before.dials later.dials 0 ss (λ m le. (same m).dials) });
}

-- the handles are the same over the same plans
pub same_handles : {L : Type 0} (look : L → Looks) (first before : Plans) (ss : List (Slot L)) → SamePlans first before → handles_in look before ss ≡ handles_in look first ss
same_handles look first before ss same = handles_same look first.dials before.dials 0 ss (λ m le. (same m).dials)

-- a step by its order, over plans that were the same before
pub step_is : {L : Type 0} (look : L → Looks) (login : Login) (first before later : Plans) (found : Bool) (aim : Aim) (named : Option StatementView) (step : Step) (order : Action) (ss ts : List (Slot L)) (d : StepResult) → order ≡ action_of found aim named step → SamePlans first before → StepsOn look login before later ss ts (λ plans. ActionGrows login plans order) d → StepsOn look login first later ss ts (λ plans hs o us ts. StepGrows login plans found aim named hs step o us ts) d
step_is {L} look login first before later found aim named step order ss ts d is same w plans awaited st =
    let r = w plans (awaited_from plans first before 0 ss (λ m le. same m) awaited) st in
    record {
      stood = r.stood;
      longer = r.longer;
      grows = (r.grows.0, subst (λ hs. StepGrows login plans found aim named hs step d.outcome d.uses.items (handles_in look later ts)) (same_handles look first before ss same) (subst (λ (x : Action). ActionGrows login plans x (handles_in look before ss) d.outcome d.uses.items (handles_in look later ts)) is r.grows.1));
    }

-- what a step makes of the moment and of the random words, over the same plans
pub step_chance : (found : Bool) (aim : Aim) (named : Option StatementView) (step : Step) (order : Action) (hs gs : List Handle) (c d now : Chance) → order ≡ action_of found aim named step → hs ≡ gs → c ≡ d → now ≡ chance_of order hs c → now ≡ chance_by (has_dialed step gs) step d
step_chance found aim named step order hs gs c d now is same still w = w ∙ ap (λ (o : Action). chance_of o hs c) is ∙ chance_is found aim named step hs c ∙ ap (λ (xs : List Handle). chance_by (has_dialed step xs) step c) same ∙ ap (chance_by (has_dialed step gs) step) still

-- how the counts of its dial rise
pub step_counts : (found : Bool) (aim : Aim) (named : Option StatementView) (step : Step) (order : Action) (hs gs : List Handle) (first before later : DialCounts) (us : List Use) → order ≡ action_of found aim named step → hs ≡ gs → before ≡ first → DialsTo before later (dial_met (dials_by order hs) us) → DialsTo first later (dial_met (has_dialed step gs) us)
step_counts found aim named step order hs gs first before later us is same still w =
    let dials : dials_by order hs ≡ has_dialed step gs = ap (λ (o : Action). dials_by o hs) is ∙ dials_is found aim named step hs ∙ ap (has_dialed step) same in
    subst (λ (b : Bool). DialsTo first later (dial_met b us)) dials (subst (λ (c : DialCounts). DialsTo c later (dial_met (dials_by order hs) us)) still w)

pub on_ok : {T E : Type 0} (r : Result T E) (P Q : Type 0) → (P → Q) → OnOk r P → OnOk r Q
on_ok (Ok x) P Q f p = f p
on_ok (Err e) P Q f p = tt

pub carries_known : {L : Type 0} (look : L → Looks) (login : Login) (plans before later : Plans) (order known : Action) (ss ts : List (Slot L)) (d : StepResult) → order ≡ known → Stepped login ss ts (AreAwaited plans later 0 ts × ActionGrows login plans known (handles_in look before ss) d.outcome d.uses.items (handles_in look later ts)) → Stepped login ss ts (AreAwaited plans later 0 ts × ActionGrows login plans order (handles_in look before ss) d.outcome d.uses.items (handles_in look later ts))
carries_known look login plans before later order known ss ts d e w = subst (λ (x : Action). Stepped login ss ts (AreAwaited plans later 0 ts × ActionGrows login plans x (handles_in look before ss) d.outcome d.uses.items (handles_in look later ts))) (sym e) w
