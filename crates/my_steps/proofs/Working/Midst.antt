-- What a step may have done by the time that memory ran out in it.
use Rattle.std.proofs.Common.{ℕ, ◌≡◌, ◌≢◌, ◌<◌, zero, suc, List, [], ◌∷◌, ◌++◌, length, get_or, slice_set, Option, None, Some, Bool, true, false, Result, Ok, Err, OnOk, OnErr, refl, sym, ap, ◌∙◌, subst, arith}
use Rattle.my_statements.specs.Prepared.{StatementView}
use Rattle.my_link.specs.Looks.{Looks}
use Rattle.my_link.specs.World.{Back, DialCounts, IsFresh, WorldSeen, with_back}
use Rattle.my_script.specs.declared.aim.Aim.{Aim}
use Rattle.my_script.specs.declared.step.Step.{Step}
use Rattle.my_script.specs.declared.step.Step.TheVariants as steps
use Rattle.my_steps.specs.declared.slot.Slot.{Slot}
use Rattle.my_steps.specs.declared.slot.Slot.TheVariants.{Gone, Held, Connecting, There, Gathering, Ended}
use Rattle.my_script.specs.declared.action.Action.{Action}
use Rattle.my_script.specs.declared.action.Work.{Work}
use Rattle.my_steps.specs.Dialing.{has_dialed}
use Rattle.my_script.specs.Actions.{action_of}
use Rattle.my_steps.specs.Did.{redials}
use Rattle.my_steps.specs.Handle.{Handle}
use Rattle.my_steps.specs.Midst.{number_of, number_by, DialTried, Kept, Unused, Untold, MayDial, TriesDial, MayTry, is_linked, LinkStays, slot_at, InMidst}
use Rattle.my_steps.specs.Orders.{dials_by}
use Rattle.my_steps.specs.Slot.{HasLink, handle_of}
use Rattle.my_steps.proofs.Working.Numbers.{set_twice}
use Rattle.my_steps.proofs.Working.Ordering.{dials_is}

-- a link for which memory lacked
pub hung : {T E : Type 0} (r : Result T E) (n : ℕ) (x : Looks) (c d : DialCounts) (old new : Option (List Back)) → OnOk r (new ≡ with_back n x old) → OnErr r (new ≡ None) → d ≡ c → IsFresh x.got → DialTried (Some n) c d old new
hung (Ok u) n x c d old new e f same fresh = Unused n x refl fresh same e
hung (Err u) n x c d old new e f same fresh = Untold same f

-- the world was the same before
pub tried_from : (number : Option ℕ) (b c d : DialCounts) (was old new : Option (List Back)) → c ≡ b → old ≡ was → DialTried number c d old new → DialTried number b d was new
tried_from number b c d was old new e f w = subst (λ (x : DialCounts). DialTried number x d was new) e (subst (λ (x : Option (List Back)). DialTried number c d x new) f w)

pub may_from : (dials : Bool) (number : Option ℕ) (b c d : DialCounts) (was old new : Option (List Back)) → c ≡ b → old ≡ was → MayDial dials number c d old new → MayDial dials number b d was new
may_from dials number b c d was old new e f w = subst (λ (x : DialCounts). MayDial dials number x d was new) e (subst (λ (x : Option (List Back)). MayDial dials number c d x new) f w)

pub may_same : (dials : Bool) (number : Option ℕ) (c : DialCounts) (back : Option (List Back)) → MayDial dials number c c back back
may_same true number c back = Kept refl refl
may_same false number c back = (refl, refl)

-- one slot
pub has_link : {L : Type 0} (s : Slot L) → is_linked s ≡ true → HasLink s
has_link Gone e = cc
has_link Held e = cc
has_link (Connecting c) e = tt
has_link (There c) e = tt
has_link (Gathering c rows) e = tt
has_link (Ended t l) e = tt

pub slot_tried : {L : Type 0} (look : L → Looks) (s known : Slot L) (work : Work) (number : Option ℕ) (before later : WorldSeen) → s ≡ known → MayTry (redials (handle_of look known) work) number before later → MayTry (redials (handle_of look s) work) number before later
slot_tried {L} look s known work number before later e w = subst (λ (x : Slot L). MayTry (redials (handle_of look x) work) number before later) (sym e) w

pub slot_links : {L : Type 0} (look : L → Looks) (s known t : Slot L) (work : Work) → s ≡ known → LinkStays (redials (handle_of look known) work) known t → LinkStays (redials (handle_of look s) work) s t
slot_links {L} look s known t work e w = subst (λ (x : Slot L). LinkStays (redials (handle_of look x) work) x t) (sym e) w

-- all of them
pub midst_same : {L : Type 0} (dials : Bool) (number : Option ℕ) (world : WorldSeen) (ss ts : List (Slot L)) → ts ≡ ss → InMidst dials number world world ss ts
midst_same {L} dials number world ss ts e = subst (λ (xs : List (Slot L)). InMidst dials number world world ss xs) (sym e) (record { others = λ n apart. refl; links = λ off n. refl; tried = may_same dials number world.dials world.back })

pub midst_moved : {L : Type 0} (order known : Action) (hs : List Handle) (next : ℕ) (before later : WorldSeen) (ss : List (Slot L)) → order ≡ known → dials_by known hs ≡ false → later.dials ≡ before.dials → later.back ≡ before.back → InMidst (dials_by order hs) (number_by order next) before later ss ss
midst_moved order known hs next before later ss e off d b =
    let none : dials_by order hs ≡ false = ap (λ (o : Action). dials_by o hs) e ∙ off in
    record {
      others = λ n apart. refl;
      links = λ off n. refl;
      tried = subst (λ (b : Bool). MayTry b (number_by order next) before later) (sym none) (d, b);
    }

-- what is at a place
got_default : {L : Type 0} (ss : List (Slot L)) (n : ℕ) (d : Slot L) → n < length ss → get_or ss n d ≡ slot_at ss n
got_default [] n d h = absurd (omega (arith, h))
got_default (s ∷ ss) zero d h = refl
got_default (s ∷ ss) (suc n) d h = got_default ss n d (omega (arith, h))

set_other : {L : Type 0} (ss : List (Slot L)) (n m : ℕ) (y : Slot L) → n ≢ m → slot_at (slice_set ss n y) m ≡ slot_at ss m
set_other [] n m y apart = refl
set_other (s ∷ ss) zero zero y apart = absurd (apart refl)
set_other (s ∷ ss) zero (suc m) y apart = refl
set_other (s ∷ ss) (suc n) zero y apart = refl
set_other (s ∷ ss) (suc n) (suc m) y apart = set_other ss n m y (λ e. apart (ap suc e))

set_links : {L : Type 0} (ss : List (Slot L)) (n m : ℕ) (y : Slot L) → is_linked y ≡ is_linked (slot_at ss n) → is_linked (slot_at (slice_set ss n y) m) ≡ is_linked (slot_at ss m)
set_links [] n m y e = refl
set_links (s ∷ ss) zero zero y e = e
set_links (s ∷ ss) zero (suc m) y e = refl
set_links (s ∷ ss) (suc n) zero y e = refl
set_links (s ∷ ss) (suc n) (suc m) y e = set_links ss n m y e

-- a slot that is taken out and put there again
pub midst_put : {L : Type 0} (dials known : Bool) (n : ℕ) (before later : WorldSeen) (ss ts : List (Slot L)) (old new : Slot L) → dials ≡ known → n < length ss → old ≡ get_or ss n old → ts ≡ slice_set (slice_set ss n Gone) n new → LinkStays known old new → MayTry known (Some n) before later → InMidst dials (Some n) before later ss ts
midst_put {L} dials known n before later ss ts old new so h e is stays w =
    let set : ts ≡ slice_set ss n new = is ∙ set_twice n ss Gone new in
    let here : old ≡ slot_at ss n = e ∙ got_default ss n old h in
    record {
      others = λ m apart. ap (λ (xs : List (Slot L)). slot_at xs m) set ∙ set_other ss n m new (λ same. apart (ap Some same));
      links = λ off m.
          ap (λ (xs : List (Slot L)). is_linked (slot_at xs m)) set
          ∙ set_links ss n m new (subst (λ (b : Bool). LinkStays b old new) (sym so ∙ off) stays ∙ ap (λ (s : Slot L). is_linked s) here);
      tried = subst (λ (b : Bool). MayTry b (Some n) before later) (sym so) w;
    }

push_other : {L : Type 0} (ss : List (Slot L)) (m : ℕ) (y : Slot L) → length ss ≢ m → slot_at (ss ++ y ∷ []) m ≡ slot_at ss m
push_other [] zero y apart = absurd (apart refl)
push_other [] (suc m) y apart = refl
push_other (s ∷ ss) zero y apart = refl
push_other (s ∷ ss) (suc m) y apart = push_other ss m y (λ e. apart (ap suc e))

not_both : {A : Type 0} → true ≡ false → A
not_both e = cc

-- a slot more
pub midst_push : {L : Type 0} (n : ℕ) (before later : WorldSeen) (ss ts : List (Slot L)) (new : Slot L) → ts ≡ ss ++ new ∷ [] → n ≡ length ss → TriesDial (Some n) before later → InMidst true (Some (length ss)) before later ss ts
midst_push {L} n before later ss ts new is at w = record {
  others = λ m apart. ap (λ (xs : List (Slot L)). slot_at xs m) is ∙ push_other ss m new (λ same. apart (ap Some same));
  links = λ off m. not_both off;
  tried = subst (λ (k : ℕ). TriesDial (Some k) before later) at w;
}

-- of a step by its order
number_is : (found : Bool) (aim : Aim) (named : Option StatementView) (step : Step) (next : ℕ) → number_by (action_of found aim named step) next ≡ number_of step next
number_is found aim named steps.Conn next = refl
number_is found aim named step next = refl

pub step_midst : {L : Type 0} (found : Bool) (aim : Aim) (named : Option StatementView) (step : Step) (order : Action) (hs gs : List Handle) (next : ℕ) (first before later : WorldSeen) (ss ts : List (Slot L)) → order ≡ action_of found aim named step → hs ≡ gs → before.dials ≡ first.dials → before.back ≡ first.back → InMidst (dials_by order hs) (number_by order next) before later ss ts → InMidst (has_dialed step gs) (number_of step next) first later ss ts
step_midst {L} found aim named step order hs gs next first before later ss ts is same d b w =
    let dials : dials_by order hs ≡ has_dialed step gs = ap (λ (o : Action). dials_by o hs) is ∙ dials_is found aim named step hs ∙ ap (has_dialed step) same in
    let number : number_by order next ≡ number_of step next = ap (λ (o : Action). number_by o next) is ∙ number_is found aim named step next in
    let so : InMidst (has_dialed step gs) (number_of step next) before later ss ts =
    subst (λ (b : Bool). InMidst b (number_of step next) before later ss ts) dials
    (subst (λ (q : Option ℕ). InMidst (dials_by order hs) q before later ss ts) number w) in
    record {
      others = so.others;
      links = so.links;
      tried = may_from (has_dialed step gs) (number_of step next) first.dials before.dials later.dials first.back before.back later.back d b so.tried;
    }
