-- A run in which memory ran out.
use Rattle.std.proofs.Common.{ℕ, ◌≡◌, ◌<◌, ◌+◌, ◌⊎◌, inl, inr, zero, suc, List, [], ◌∷◌, ◌++◌, length, map, get_or, take, drop, Option, None, Bool, false, Result, Ok, Err, OnOk, OnErr, refl, sym, ap, ◌∙◌, subst, arith}
use Rattle.std.specs.List.{remove}
use Rattle.std.proofs.lemmas.List.{append-nil, append_assoc, take-append-drop}
use Rattle.my_frame.specs.Sinks.{SinkSeen}
use Rattle.my_frame.specs.Sources.{SourceSeen}
use Rattle.my_grammar.specs.declared.login.Login.{Login}
use Rattle.my_link.specs.Looks.{Looks}
use Rattle.my_link.specs.declared.dialer.DialItem.{DialItem}
use Rattle.my_link.specs.World.{Back, DialCounts, Plans, WorldSeen}
use Rattle.my_script.specs.declared.step.Step.{Step}
use Rattle.my_script.specs.declared.transcript.StepAnswer.{StepAnswer}
use Rattle.my_script.specs.declared.transcript.Tape.{Tape}
use Rattle.my_steps.specs.declared.slot.Slot.{Slot}
use Rattle.my_steps.specs.declared.slot.Slot.TheVariants.{Gone, Held, Connecting, There, Gathering, Ended}
use Rattle.my_steps.specs.Dialing.{Course, course_of, has_dialed}
use Rattle.my_steps.specs.Grows.{handles_after}
use Rattle.my_steps.specs.Handle.{Handle, at_number}
use Rattle.my_steps.specs.Midst.{InMidst, LeavesOthers, MayDial, is_joined, is_linked, number_of, slot_at}
use Rattle.my_steps.specs.Slot.{handle_of, handle_with, handles_from, handles_in}
use Rattle.my_steps.proofs.Working.Awaiting.{handles_length}
use Rattle.my_steps.proofs.Working.Midst.{may_from, may_same}
use Rattle.my_run.specs.Headline.{Headline, RunSoFar, SoFar}
use Rattle.my_run.specs.Stopped.{HandedBack, RunStopped, Stopped, StoppedAt, StopsIn, dials_next, number_next}
use Rattle.my_run.specs.Tapes.{links_at, links_in, with_links}
use Rattle.my_run.specs.Tool.{EndsBy, IsStopped}
use Rattle.my_run.specs.declared.tool.Report.{Report}
use Rattle.my_run.specs.declared.tool.Status.TheVariants.{NoMemory}
use Rattle.my_run.proofs.Runs.Taping.{all_same, link_on, link_same, with_none}

-- a handle and its slot
at_slot : {L : Type 0} (look : L → Looks) (left : ℕ → Option (List DialItem)) (k n m : ℕ) (ss : List (Slot L)) → m ≡ k + n → at_number (handles_from look left k ss) n ≡ handle_with look (left m) (slot_at ss n)
at_slot look left k n m [] e = refl
at_slot look left k zero m (s ∷ ss) e = let at : k ≡ m = omega (arith, e) in ap (λ i. handle_with look (left i) s) at
at_slot look left k (suc n) m (s ∷ ss) e = at_slot look left (suc k) n m ss (omega (arith, e))

joined_is : {L : Type 0} (look : L → Looks) (left : Option (List DialItem)) (s : Slot L) → is_joined (handle_with look left s) ≡ is_linked s
joined_is look left Gone = refl
joined_is look left Held = refl
joined_is look left (Connecting c) = refl
joined_is look left (There c) = refl
joined_is look left (Gathering c rows) = refl
joined_is look left (Ended t l) = refl

-- what is left of the other slots is left of their handles
leaves : {L : Type 0} (look : L → Looks) (left : ℕ → Option (List DialItem)) (dials : Bool) (number : Option ℕ) (now later : WorldSeen) (ss ts : List (Slot L)) → InMidst dials number now later ss ts → LeavesOthers dials number (handles_from look left 0 ss) (handles_from look left 0 ts)
leaves {L} look left dials number now later ss ts w = record {
  others = λ n apart. here ts n ∙ ap (handle_with look (left n)) (w.others n apart) ∙ sym (here ss n);
  links = λ off n. joined ts n ∙ w.links off n ∙ sym (joined ss n);
}
  where
    here : (xs : List (Slot L)) (n : ℕ) → at_number (handles_from look left 0 xs) n ≡ handle_with look (left n) (slot_at xs n)
    here xs n = let at : n ≡ 0 + n = omega arith in at_slot look left 0 n n xs at

    joined : (xs : List (Slot L)) (n : ℕ) → is_joined (at_number (handles_from look left 0 xs) n) ≡ is_linked (slot_at xs n)
    joined xs n = ap is_joined (here xs n) ∙ joined_is look (left n) (slot_at xs n)

-- memory ran out in the midst of this step
pub stop_in : {L : Type 0} (look : L → Looks) (login : Login) (plans : Plans) (before : Course) (now later : WorldSeen) (done rest all : List Step) (step : Step) (ss ts : List (Slot L)) (given : List StepAnswer) → SoFar look login plans before now done ss given → InMidst (has_dialed step (handles_in look now.plans ss)) (number_of step (length ss)) now later ss ts → done ++ step ∷ rest ≡ all → StoppedAt look later ts login plans before all
stop_in {L} look login plans before now later done rest all step ss ts given u w e =
    let count : length ss ≡ length (handles_in look now.plans ss) = sym (handles_length look now.plans.dials 0 ss) in
    let so : InMidst (has_dialed step (handles_in look now.plans ss)) (number_of step (length (handles_in look now.plans ss))) now later ss ts =
    subst (λ (k : ℕ). InMidst (has_dialed step (handles_in look now.plans ss)) (number_of step k) now later ss ts) count w in
    record {
      lines = u.lines;
      rest = step ∷ rest;
      steps_are = ap (λ (xs : List Step). xs ++ step ∷ rest) u.steps_are ∙ e;
      grown = u.grown;
      explained = u.explained;
      left = now.plans.dials;
      others = subst (λ (hs : List Handle). LeavesOthers (has_dialed step hs) (number_of step (length hs)) hs (handles_from look now.plans.dials 0 ts)) u.handles_are (leaves look now.plans.dials (has_dialed step (handles_in look now.plans ss)) (number_of step (length (handles_in look now.plans ss))) now later ss ts so);
      counts = now.dials;
      dialed = u.dialed;
      tried = may_from (has_dialed step (handles_after u.lines)) (number_of step (length (handles_after u.lines))) now.dials now.dials later.dials before.back now.back later.back refl u.kept
          (subst (λ (hs : List Handle). MayDial (has_dialed step hs) (number_of step (length hs)) now.dials later.dials now.back later.back) u.handles_are so.tried);
    }

pub stopped_at : {L : Type 0} (look : L → Looks) (login : Login) (told : Plans) (before : Course) (now later : WorldSeen) (i : ℕ) (all : List Step) (step : Step) (ss ts : List (Slot L)) (given : List StepAnswer) → RunSoFar look login told before now (take i all) ss given → InMidst (has_dialed step (handles_in look now.plans ss)) (number_of step (length ss)) now later ss ts → take (i + 1) all ≡ take i all ++ step ∷ [] → RunStopped look login told before later all ts
stopped_at look login told before now later i all step ss ts given u w next plans same =
    let whole : take i all ++ step ∷ drop (i + 1) all ≡ all = sym (append_assoc (take i all) (step ∷ []) (drop (i + 1) all)) ∙ ap (λ (xs : List Step). xs ++ drop (i + 1) all) (sym next) ∙ take-append-drop (i + 1) all in
    stop_in look login plans before now later (take i all) (drop (i + 1) all) all step ss ts given (u plans same) w whole

-- or after all of them
stop_after : {L : Type 0} (look : L → Looks) (login : Login) (plans : Plans) (before : Course) (now : WorldSeen) (all : List Step) (ss : List (Slot L)) (given : List StepAnswer) → SoFar look login plans before now all ss given → StoppedAt look now ss login plans before all
stop_after look login plans before now all ss given u = record {
  lines = u.lines;
  rest = [];
  steps_are = append-nil _ ∙ u.steps_are;
  grown = u.grown;
  explained = u.explained;
  left = now.plans.dials;
  others = record { others = λ n apart. ap (λ hs. at_number hs n) u.handles_are; links = λ off n. ap (λ hs. is_joined (at_number hs n)) u.handles_are };
  counts = now.dials;
  dialed = u.dialed;
  tried = (refl, u.kept);
}

-- the links were handed back then
stop_end : {L : Type 0} (look : L → Looks) (login : Login) (plans : Plans) (before : Course) (now later : WorldSeen) (all : List Step) (ss : List (Slot L)) → StoppedAt look now ss login plans before all → HandedBack (links_in 0 (map (handle_of look) ss)) now.back later.back → later.dials ≡ now.dials → Stopped (course_of later) login plans before all
stop_end look login plans before now later all ss u back d = record {
  lines = u.lines;
  rest = u.rest;
  steps_are = u.steps_are;
  grown = u.grown;
  explained = u.explained;
  handles = handles_from look u.left 0 ss;
  others = u.others;
  counts = u.counts;
  back = now.back;
  dialed = u.dialed;
  tried = subst (λ (c : DialCounts). MayDial (dials_next u.rest (handles_after u.lines)) (number_next u.rest (handles_after u.lines)) u.counts c before.back now.back) (sym d) u.tried;
  ended = subst (λ ls. HandedBack ls now.back later.back) (all_same look links_at u.left 0 ss (link_same look)) back;
}

pub stops_in : {L T E X F : Type 0} (look : L → Looks) (login : Login) (told : Plans) (before : Course) (now later : WorldSeen) (all : List Step) (ss : List (Slot L)) (given : List StepAnswer) (ran : Result T E) (tapes : Result X F) → OnOk ran (RunSoFar look login told before now all ss given) → OnErr ran (RunStopped look login told before now all ss) → OnOk tapes (later.back ≡ with_links (links_in 0 (map (handle_of look) ss)) now.back) → OnErr tapes (HandedBack (links_in 0 (map (handle_of look) ss)) now.back later.back) → later.dials ≡ now.dials → StopsIn login told before (course_of later) all
stops_in {L} {T} {E} {X} {F} look login told before now later all ss given ran tapes so stopped exact back d plans same = stop_end look login plans before now later all ss (at_end ran so stopped) (handed tapes exact back) d
  where
    at_end : (r : Result T E) → OnOk r (RunSoFar look login told before now all ss given) → OnErr r (RunStopped look login told before now all ss) → StoppedAt look now ss login plans before all
    at_end (Ok x) so stopped = stop_after look login plans before now all ss given (so plans same)
    at_end (Err e) so stopped = stopped plans same

    handed : (r : Result X F) → OnOk r (later.back ≡ with_links (links_in 0 (map (handle_of look) ss)) now.back) → OnErr r (HandedBack (links_in 0 (map (handle_of look) ss)) now.back later.back) → HandedBack (links_in 0 (map (handle_of look) ss)) now.back later.back
    handed (Ok x) exact back = inl exact
    handed (Err e) exact back = back

-- before the first step
pub not_begun : (login : Login) (plans : Plans) (before later : Course) (steps : List Step) → later.dials ≡ before.dials → later.back ≡ before.back → Stopped later login plans before steps
not_begun login plans before later steps d b = record {
  lines = [];
  rest = steps;
  steps_are = refl;
  grown = tt;
  explained = tt;
  handles = [];
  others = record { others = λ n apart. refl; links = λ off n. refl };
  counts = before.dials;
  back = before.back;
  dialed = refl;
  tried = subst (λ (c : DialCounts). MayDial (dials_next steps []) (number_next steps []) before.dials c before.back before.back) (sym d) (may_same (dials_next steps []) (number_next steps []) before.dials before.back);
  ended = inl (b ∙ sym (with_none before.back));
}

-- after the last one
pub all_done : (login : Login) (plans : Plans) (before later : Course) (steps : List Step) (answers : List StepAnswer) (tapes : List Tape) → Headline login plans before later steps answers tapes → Stopped later login plans before steps
all_done login plans before later steps answers tapes w = record {
  lines = w.lines;
  rest = [];
  steps_are = append-nil _ ∙ w.steps_are;
  grown = w.grown;
  explained = w.explained;
  handles = handles_after w.lines;
  others = record { others = λ n apart. refl; links = λ off n. refl };
  counts = later.dials;
  back = before.back;
  dialed = w.dialed;
  tried = (refl, refl);
  ended = inl w.ended;
}

-- Links that are still to be handed back, where one of them may have been lost: these are all that is left, or it isn't told.
abbrev pub Hands : Bool → List Back → Option (List Back) → Option (List Back) → Type 0
Hands whole links back all = (with_links links back ≡ all) ⊎ ((whole ≡ false) × (back ≡ None))

-- one of them was handed back
pub hands_on : {L : Type 0} (look : L → Looks) (n k : ℕ) (ss rest : List (Slot L)) (s : Slot L) (whole next : Bool) (back more all : Option (List Back)) → 0 < length ss → s ≡ get_or ss 0 s → rest ≡ remove ss 0 → k ≡ suc n → next ≡ whole → more ≡ with_links (links_at n (handle_of look s)) back → Hands whole (links_in n (map (handle_of look) ss)) back all → Hands next (links_in k (map (handle_of look) rest)) more all
hands_on look n k ss rest s whole next back more all h e f j is g (inl i) = inl (link_on look links_at n k ss rest s back more all h e f g j i)
hands_on look n k ss rest s whole next back more all h e f j is g (inr i) = inr (is ∙ i.0, g ∙ ap (with_links (links_at n (handle_of look s))) i.1)

-- or wasn't noted
pub hands_out : {L : Type 0} (look : L → Looks) (n k : ℕ) (ss rest : List (Slot L)) (s : Slot L) (whole next : Bool) (back more all : Option (List Back)) → 0 < length ss → s ≡ get_or ss 0 s → rest ≡ remove ss 0 → k ≡ suc n → next ≡ false → HandedBack (links_at n (handle_of look s)) back more → Hands whole (links_in n (map (handle_of look) ss)) back all → Hands next (links_in k (map (handle_of look) rest)) more all
hands_out look n k ss rest s whole next back more all h e f j is (inl g) (inl i) = inl (link_on look links_at n k ss rest s back more all h e f g j i)
hands_out look n k ss rest s whole next back more all h e f j is (inl g) (inr i) = inr (is, g ∙ ap (with_links (links_at n (handle_of look s))) i.1)
hands_out look n k ss rest s whole next back more all h e f j is (inr g) i = inr (is, g)

-- none is left
pub hands_end : {L : Type 0} (look : L → Looks) (n : ℕ) (ss : List (Slot L)) (whole : Bool) (links : List Back) (first back : Option (List Back)) → ss ≡ [] → Hands whole (links_in n (map (handle_of look) ss)) back (with_links links first) → HandedBack links first back
hands_end {L} look n ss whole links first back e (inl i) = inl (sym (with_none back) ∙ ap (λ (xs : List (Slot L)). with_links (links_in n (map (handle_of look) xs)) back) (sym e) ∙ i)
hands_end look n ss whole links first back e (inr i) = inr i.1

-- over the same course and the same steps
pub stopped_as : (later : Course) (login : Login) (plans : Plans) (before first : Course) (all steps : List Step) → before ≡ first → all ≡ steps → Stopped later login plans before all → Stopped later login plans first steps
stopped_as later login plans before first all steps e f w = subst (λ (xs : List Step). Stopped later login plans first xs) f (subst (λ (b : Course). Stopped later login plans b all) e w)

-- the report then
pub blank_stop : (words : List (List ℕ)) (world later : WorldSeen) (s r : SourceSeen) (w v : SinkSeen) (report : Report) → report.status ≡ NoMemory → v ≡ w → report.transcript.answers.items ≡ [] → report.transcript.tapes.items ≡ [] → IsStopped words world later s r → EndsBy words world later s r w v report.transcript report.status
blank_stop words world later s r w v report e f a t stopped = subst (EndsBy words world later s r w v report.transcript) (sym e) (record { written = f; answers = a; tapes = t }, stopped)

-- at a `?` that returns the error
pub err_at : {T E : Type 0} (r : Result T E) (P : Type 0) → P → OnErr r P
err_at (Ok x) P p = tt
err_at (Err e) P p = p

pub nil_of : {X : Type 0} (xs : List X) → length xs ≡ 0 → xs ≡ []
nil_of [] e = refl
nil_of (x ∷ xs) e = absurd (omega (arith, e))
