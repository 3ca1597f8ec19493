-- The run, step by step.
pub mod Fitting
pub mod Taping
use Rattle.std.proofs.Common.{◌≤◌, ℕ, ◌≡◌, ◌+◌, ◌<◌, ◌&&◌, suc, zero, List, [], ◌∷◌, ◌++◌, length, map, take, get_or, Option, Result, Ok, IfOk, OnOk, Bool, true, false, refl, sym, ap, ◌∙◌, subst, arith}
use Rattle.std.proofs.lemmas.List.{length-append, map-append}
use Rattle.my_grammar.specs.declared.login.Login.{Login}
use Rattle.my_steps.specs.declared.slot.Slot.{Slot}
use Rattle.my_steps.specs.declared.slot.Slot.TheVariants.{Gone, Held, Connecting, There, Gathering, Ended}
use Rattle.my_script.specs.declared.aim.Aim.{Aim}
use Rattle.my_script.specs.declared.step.Step.{Step}
use Rattle.my_script.specs.declared.step.Step.TheVariants as steps
use Rattle.my_script.specs.Script.{may_stand}
use Rattle.std.specs.List.{list_all}
use Rattle.my_script.specs.declared.transcript.StepAnswer.{StepAnswer}
use Rattle.my_script.specs.declared.transcript.Tape.{Tape}
use Rattle.my_steps.specs.Dialing.{AreDialed, Course, course_of, DialsTo, chance_by, dial_met, has_dialed}
use Rattle.my_steps.specs.Did.{Stepped}
use Rattle.my_statements.specs.Prepared.{StatementView}
use Rattle.my_script.specs.Numbered.{named_statement, statement_named, statements_by}
use Rattle.my_script.specs.Beside.{beside_by, nothing_beside}
use Rattle.my_script.specs.Streams.{target}
use Rattle.my_steps.specs.Grows.{Line, StepGrows, aim_at, beside_of, handles_after, is_found, statements_of}
use Rattle.my_run.specs.declared.beside.BesideEach.{BesideEach}
use Rattle.my_run.specs.Beside.{beside_in}
use Rattle.my_steps.specs.Handle.{Handle, Absent, Dialing, Joined, at_number}
use Rattle.my_run.specs.Headline.{AnswerView, answer_view, steps_of, IsExplained, EachExplained, Headline, SoFar}
use Rattle.my_link.specs.declared.dialer.DialItem.{DialItem}
use Rattle.my_link.specs.World.{Plans, SamePlans, WorldSeen}
use Rattle.my_steps.specs.Keeps.{IsStood, AreStood, AreAwaited}
use Rattle.my_steps.proofs.Working.Awaiting.{at_sym}
use Rattle.my_steps.proofs.Working.Rows.{read_rows}
use Rattle.my_link.specs.Looks.{Looks}
use Rattle.my_steps.specs.Slot.{handle_with, handle_of, handles_from, handles_in, kept_of, kept_some}
use Rattle.my_run.specs.Tapes.{all_in, links_at, links_in, tape_view, tape_at, tapes_in, with_links}
use Rattle.my_client.proofs.Reading.{rests_read}
use Rattle.my_run.proofs.Runs.Taping.{all_same, link_same, tape_same}

-- what is at each number is explained
said_at : {L : Type 0} (look : L → Looks) (login : Login) (left : Option (List DialItem)) (s : Slot L) → IsStood login s → IsExplained login (handle_with look left s)
said_at look login left Gone w = tt
said_at look login left Held w = tt
said_at look login left (Connecting c) w = rests_read login c.seen (kept_some c.tape) w.rests
said_at look login left (There c) w = rests_read login c.seen (kept_of c) w.stands.rests
said_at look login left (Gathering c rows) w = read_rows rows.items login (kept_of c) (rests_read login c.seen (kept_of c) w.stands.stands.rests)
said_at look login left (Ended t l) w = w

all_said : {L : Type 0} (look : L → Looks) (login : Login) (left : ℕ → Option (List DialItem)) (k : ℕ) (ss : List (Slot L)) (m : ℕ) → AreStood login ss → IsExplained login (at_number (handles_from look left k ss) m)
all_said look login left k [] m w = tt
all_said look login left k (s ∷ ss) zero w = said_at look login (left k) s w.0
all_said look login left k (s ∷ ss) (suc m) w = all_said look login left (suc k) ss m w.1

count_steps : (ls : List Line) → length (steps_of ls) ≡ length ls
count_steps [] = refl
count_steps (l ∷ ls) = omega (arith, count_steps ls, length-append (steps_of ls) (l.step ∷ []))

pub none_yet : {L : Type 0} (look : L → Looks) (login : Login) (plans : Plans) (world : WorldSeen) (done : List Step) (ss : List (Slot L)) (given : List StepAnswer) → SamePlans world.plans plans → done ≡ [] → ss ≡ [] → given ≡ [] → (v : SoFar look login plans (course_of world) world done ss given) × ((n : ℕ) → beside_of n v.lines ≡ nothing_beside) × (statements_of v.lines ≡ [])
none_yet {L} look login plans world done ss given same d e f = (
  record {
    lines = [];
    steps_are = sym d;
    answered = ap (map answer_view) f;
    handles_are = ap (handles_in look world.plans) e;
    stood = subst (AreStood login) (sym e) tt;
    awaited = subst (AreAwaited plans world.plans 0) (sym e) (λ m le. at_sym world.plans plans m (same m));
    grown = tt;
    dialed = refl;
    moved = refl;
    explained = tt;
    kept = refl;
  },
  λ n. refl,
  refl,
)

-- and what stands beside the connections, and the statements, are those of the lines
abbrev pub LinesSoFar : {L : Type 0} → (L → Looks) → Login → Plans → Course → WorldSeen → List Step → List (Slot L) → List StepAnswer → BesideEach → List (Option StatementView) → Type 0
LinesSoFar look login told before now done slots answers beside given = (plans : Plans) → SamePlans told plans
    → (v : SoFar look login plans before now done slots answers) × ((n : ℕ) → beside_in beside n ≡ beside_of n v.lines) × (given ≡ statements_of v.lines)

pub step_on : {L : Type 0} (look : L → Looks) (login : Login) (plans : Plans) (before : Course) (now later : WorldSeen) (done next : List Step) (ss ts : List (Slot L)) (given bs : List StepAnswer) (step : Step) (a : StepAnswer) (found : Bool) (aim : Aim) (named : Option StatementView) → (u : SoFar look login plans before now done ss given) → found ≡ is_found (target step) step u.lines → aim ≡ aim_at (target step) u.lines → named ≡ statement_named (named_statement step) (statements_of u.lines) → Stepped login ss ts (AreAwaited plans later.plans 0 ts × StepGrows login plans found aim named (handles_in look now.plans ss) step a.outcome a.uses.items (handles_in look later.plans ts)) → DialsTo now.dials later.dials (dial_met (has_dialed step (handles_in look now.plans ss)) a.uses.items) → later.chance ≡ chance_by (has_dialed step (handles_in look now.plans ss)) step now.chance → later.back ≡ now.back → a.number ≡ length done + 1 → bs ≡ given ++ a ∷ [] → next ≡ done ++ step ∷ []
    → (v : SoFar look login plans before later next ts bs) × ((n : ℕ) → beside_of n v.lines ≡ beside_by n (beside_of n u.lines) step a.outcome) × (statements_of v.lines ≡ statements_by (statements_of u.lines) step a.outcome)
step_on {L} look login plans before now later done next ss ts given bs step a found aim named u finds aims names w dials moves stays num e f =
    let made : List Handle = handles_in look later.plans ts in
    let lines : List Line = record { step = step; number = a.number; outcome = a.outcome; uses = a.uses.items; handles = made } ∷ u.lines in
    let known : Bool = is_found (target step) step u.lines in
    let stated : Option StatementView = statement_named (named_statement step) (statements_of u.lines) in
    let aimed : Aim = aim_at (target step) u.lines in
    let grows : StepGrows login plans known aimed stated (handles_after u.lines) step a.outcome a.uses.items made =
    subst (λ (b : Bool). StepGrows login plans b aimed stated (handles_after u.lines) step a.outcome a.uses.items made) finds
    (subst (λ (x : Aim). StepGrows login plans found x stated (handles_after u.lines) step a.outcome a.uses.items made) aims
    (subst (λ (q : Option StatementView). StepGrows login plans found aim q (handles_after u.lines) step a.outcome a.uses.items made) names
    (subst (λ (hs : List Handle). StepGrows login plans found aim named hs step a.outcome a.uses.items made) u.handles_are w.grows.1))) in (
      record {
        lines = lines;
        steps_are = ap (λ ss. ss ++ step ∷ []) u.steps_are ∙ sym f;
        answered = ap (map answer_view) e ∙ map-append answer_view given (a ∷ []) ∙ ap (λ (vs : List AnswerView). vs ++ answer_view a ∷ []) u.answered;
        handles_are = refl;
        stood = w.stood;
        awaited = w.grows.0;
        grown = (record { number = num ∙ ap (λ n. n + 1) (sym (ap length u.steps_are) ∙ count_steps u.lines); answer = grows }, u.grown);
        dialed = (now.dials, u.dialed, subst (λ (hs : List Handle). DialsTo now.dials later.dials (dial_met (has_dialed step hs) a.uses.items)) u.handles_are dials);
        moved = moves ∙ ap (λ (hs : List Handle). chance_by (has_dialed step hs) step now.chance) u.handles_are ∙ ap (chance_by (has_dialed step (handles_after u.lines)) step) u.moved;
        explained = (λ m. all_said look login later.plans.dials 0 ts m w.stood, u.explained);
        kept = stays ∙ u.kept;
      },
      λ n. refl,
      refl,
    )

pub headline : {L : Type 0} (look : L → Looks) (login : Login) (plans : Plans) (before : Course) (world later : WorldSeen) (steps : List Step) (ss : List (Slot L)) (given : List StepAnswer) (tapes : List Tape) → SoFar look login plans before world steps ss given → map tape_view tapes ≡ tapes_in 0 (map (handle_of look) ss) → later.back ≡ with_links (links_in 0 (map (handle_of look) ss)) world.back → later.dials ≡ world.dials → later.chance ≡ world.chance → Headline login plans before (course_of later) steps given tapes
headline look login plans before world later steps ss given tapes u e f d m = record {
  lines = u.lines;
  steps_are = u.steps_are;
  answered = u.answered;
  grown = u.grown;
  dialed = subst (AreDialed before.dials u.lines) (sym d) u.dialed;
  moved = m ∙ u.moved;
  explained = u.explained;
  tapes_are = e ∙ all_same look tape_at world.plans.dials 0 ss (tape_same look) ∙ ap (tapes_in 0) u.handles_are;
  ended = f ∙ ap (λ ls. with_links ls world.back) (all_same look links_at world.plans.dials 0 ss (link_same look) ∙ ap (links_in 0) u.handles_are)
      ∙ ap (with_links (links_in 0 (handles_after u.lines))) u.kept;
}

-- what holds of an answer that is there
pub if_at : {T E : Type 0} (r : Result T E) (x : T) (P : T → Type 0) → r ≡ Ok x → IfOk r P → P x
if_at {T} {E} r x P e p = subst (λ (s : Result T E). IfOk s P) e p

pub on_at : {T E : Type 0} (r : Result T E) (x : T) (P : Type 0) → r ≡ Ok x → OnOk r P → P
on_at {T} {E} r x P e p = subst (λ (s : Result T E). OnOk s P) e p

-- each step may stand there
first_true : (b c : Bool) → b && c ≡ true → b ≡ true
first_true true c e = refl
first_true false c e = cc

last_true : (b c : Bool) → b && c ≡ true → c ≡ true
last_true true c e = e
last_true false c e = cc

both_true : (b c : Bool) → b ≡ true → c ≡ true → b && c ≡ true
both_true true c e f = f
both_true false c e f = cc

pub stands_at : (p : Step → Bool) (steps : List Step) (i : ℕ) (d : Step) → list_all p steps ≡ true → i < length steps → p (get_or steps i d) ≡ true
stands_at p [] i d e h = absurd (omega (arith, h))
stands_at p (s ∷ ss) zero d e h = first_true (p s) (list_all p ss) e
stands_at p (s ∷ ss) (suc i) d e h = stands_at p ss i d (last_true (p s) (list_all p ss) e) (omega (arith, h))

may_more : (plans takes : Bool) (step : Step) → (plans ≡ true → takes ≡ true) → may_stand plans step ≡ true → may_stand takes step ≡ true
may_more plans takes (steps.Advance by) f e = f e
may_more plans takes (steps.Random word) f e = f e
may_more plans takes _ f e = refl

pub stands_more : (plans takes : Bool) (steps : List Step) → (plans ≡ true → takes ≡ true) → list_all (may_stand plans) steps ≡ true → list_all (may_stand takes) steps ≡ true
stands_more plans takes [] f e = refl
stands_more plans takes (s ∷ ss) f e = both_true (may_stand takes s) (list_all (may_stand takes) ss) (may_more plans takes s f (first_true (may_stand plans s) (list_all (may_stand plans) ss) e)) (stands_more plans takes ss f (last_true (may_stand plans s) (list_all (may_stand plans) ss) e))

pub count_up : {X : Type 0} (i : ℕ) (xs : List X) → i < length xs → i + 1 ≡ length (take i xs) + 1
count_up zero xs h = refl
count_up (suc i) [] h = absurd (omega (arith, h))
count_up (suc i) (x ∷ xs) h = let r : i + 1 ≡ length (take i xs) + 1 = count_up i xs (omega (arith, h)) in omega (arith, r)
