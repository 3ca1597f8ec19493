-- Each transcript of a run is right.
use Rattle.std.proofs.Common.{◌≡◌, ◌⊎◌, ◌≤◌, ◌<◌, inl, inr, ℕ, zero, suc, ◌+◌, ◌-◌, ◌==◌, nat_lt, List, [], ◌∷◌, ◌++◌, length, map, Bool, true, false, Option, refl, sym, ap, ◌∙◌, subst, arith, length-append, if◌then◌else◌}
use Rattle.std.proofs.lemmas.Bool.Decides.{nat_tests}
use Rattle.std.proofs.lemmas.List.{append-nil, length-map}
use Rattle.my_statements.specs.Prepared.{StatementView}
use Rattle.my_grammar.specs.declared.login.Login.{Login}
use Rattle.my_reading.specs.Endings.{AreCalls}
use Rattle.my_reading.specs.Reading.{read_calls, reading}
use Rattle.my_reading.specs.Tape.{TapeCall as ReadCall}
use Rattle.my_script.specs.declared.aim.Aim.{Aim}
use Rattle.my_script.specs.declared.step.Step.{Step}
use Rattle.my_script.specs.declared.step.Step.TheVariants as steps
use Rattle.my_script.specs.declared.transcript.Outcome.{Outcome}
use Rattle.my_script.specs.declared.transcript.StepAnswer.{StepAnswer}
use Rattle.my_script.specs.declared.transcript.Tape.{Tape}
use Rattle.my_script.specs.declared.transcript.TapeCall.{TapeCall}
use Rattle.my_script.specs.declared.transcript.Use.{Use}
use Rattle.my_run_judge.specs.declared.act.Status.TheVariants as status
use Rattle.my_client.specs.Kept.{Kept}
use Rattle.my_client.specs.Reads.{calls_kept, tape_kept}
use Rattle.my_link.specs.World.{Plans}
use Rattle.my_steps.specs.Grows.{AreGrown, Line, StepGrows, handles_after}
use Rattle.my_steps.specs.Handle.{Handle, Absent, Dialing, Joined, at_number}
use Rattle.my_run.specs.Headline.{EachExplained, IsExplained, answers_of, steps_of}
use Rattle.my_run.specs.Tapes.{TapeView, tape_of, tape_view, tapes_in}
use Rattle.run_laws.proofs.Connecting.{AreOnce, connects_once, grown_once, kept_calls}
use Rattle.my_run_judge.specs.Lines.{AreLines, FirstWrong, IsOver}
use Rattle.my_run_judge.specs.declared.made.Made.{Made}
use Rattle.my_run_judge.specs.Made.{nothing_made}
use Rattle.my_run_judge.specs.Seen.{TapeSeen, nothing_seen, seen, seen_at}
use Rattle.my_run_judge.specs.Transcripts.{AreRight, AreTapes, FoundAt, IsWrongBelow, dialed_by, dialed_in}
use Rattle.my_run_judge.specs.Walks.{Walk, start}
use Rattle.run_laws.specs.Accepts.{EachRunIsRight, EachRefusalRefutes}
use Rattle.run_laws.proofs.Judging.Going.{shown_call, shown_kept, shown_tape}
use Rattle.run_laws.proofs.Judging.Running.{Placed, less_or, past, put_length}
use Rattle.run_laws.proofs.Judging.Whole.{AreShown, RanSo, has_for, nothing_over, over_by, over_so, ran, shown_lines, tape_for}

-- the tapes by their numbers
below_none : (n first most : ℕ) (ts : List Tape) → AreTapes first most ts → n < first → seen_at n ts ≡ nothing_seen
below_none n first most [] r low = refl
below_none n first most (t ∷ ts) r low =
    let other : (t.number == n) ≡ false = let high = r.0 in grind (arith, nat_tests) in
    ap (λ b. if b then seen t else seen_at n ts) other ∙ below_none n (t.number + 1) most ts r.3 (let high = r.0 in omega arith)

above_none : (n first most : ℕ) (ts : List Tape) → AreTapes first most ts → most ≤ n → seen_at n ts ≡ nothing_seen
above_none n first most [] r high = refl
above_none n first most (t ∷ ts) r high =
    let other : (t.number == n) ≡ false = let low = r.1 in grind (arith, nat_tests) in
    ap (λ b. if b then seen t else seen_at n ts) other ∙ above_none n (t.number + 1) most ts r.3 high

from_lower : (m most : ℕ) (ts : List Tape) → AreTapes (suc m) most ts → AreTapes m most ts
from_lower m most [] r = tt
from_lower m most (t ∷ ts) r = (let high = r.0 in omega arith, r.1, r.2, r.3)

some_calls : (cs : List ReadCall) → connects_once (map (λ c. c.call) cs) ≡ true → 0 < length cs
some_calls [] e = cc
some_calls (c ∷ cs) e = omega arith

record TapesSo (m most : ℕ) (hs : List Handle) (ts : List Tape) : Type 0 where
  numbered : AreTapes m most ts
  each : (i : ℕ) → i < length hs → seen_at (m + i) ts ≡ shown_tape (tape_for (at_number hs i))

no_tape : (m most : ℕ) (h : Handle) (hs : List Handle) (ts : List Tape) → shown_tape (tape_for h) ≡ nothing_seen → TapesSo (suc m) most hs ts → TapesSo m most (h ∷ hs) ts
no_tape m most h hs ts none r = record { numbered = from_lower m most ts r.numbered; each = by_index }
  where
    by_index : (i : ℕ) → i < length (h ∷ hs) → seen_at (m + i) ts ≡ shown_tape (tape_for (at_number (h ∷ hs) i))
    by_index zero low = let same : m + zero ≡ m = omega arith in ap (λ n. seen_at n ts) same ∙ below_none m (suc m) most ts r.numbered (omega arith) ∙ sym none
    by_index (suc i) low = let same : m + suc i ≡ suc m + i = omega arith in ap (λ n. seen_at n ts) same ∙ r.each i (omega (arith, low))

one_tape : (m most : ℕ) (there : Bool) (k : Kept) (x : _) (hs : List Handle) (t : Tape) (ts : List Tape) → connects_once (kept_calls k) ≡ true → m < most → tape_view t ≡ tape_of m k → TapesSo (suc m) most hs ts → TapesSo m most (Joined there k x ∷ hs) (t ∷ ts)
one_tape m most there k x hs t ts once low is r =
    let number : t.number ≡ m = ap (λ (v : TapeView). v.number) is in
    let cs : t.calls.items ≡ map shown_call (calls_kept k.calls k.pending) = ap (λ (v : TapeView). v.calls) is ∙ shown_kept k.calls k.pending in
    let count : length t.calls.items ≡ length (calls_kept k.calls k.pending) = ap length cs ∙ length-map (calls_kept k.calls k.pending) shown_call in
    let some : 0 < length (calls_kept k.calls k.pending) = some_calls (calls_kept k.calls k.pending) once in
    let next : suc m ≡ t.number + 1 = omega arith in
    let tape_is : seen t ≡ shown_tape (tape_kept k) =
    ap (λ (v : TapeView). let s : TapeSeen = record { sent = v.sent; taken = v.taken; calls = v.calls } in s) is
    ∙ ap (λ (c : List TapeCall). let s : TapeSeen = record { sent = k.sent; taken = k.taken; calls = c } in s) (shown_kept k.calls k.pending) in
    record {
      numbered = (omega (arith, number), omega (arith, number, low), omega (arith, count, some), subst (λ z. AreTapes z most ts) next r.numbered);
      each = by_index number tape_is;
    }
  where
    by_index : t.number ≡ m → seen t ≡ shown_tape (tape_kept k) → (i : ℕ) → i < length (Joined there k x ∷ hs) → seen_at (m + i) (t ∷ ts) ≡ shown_tape (tape_for (at_number (Joined there k x ∷ hs) i))
    by_index number tape_is zero within = let same : (t.number == m + zero) ≡ true = grind (arith, nat_tests) in ap (λ b. if b then seen t else seen_at (m + zero) ts) same ∙ tape_is
    by_index number tape_is (suc i) within =
        let other : (t.number == m + suc i) ≡ false = grind (arith, nat_tests) in
        let sum : m + suc i ≡ suc m + i = omega arith in
        ap (λ b. if b then seen t else seen_at (m + suc i) ts) other ∙ ap (λ n. seen_at n ts) sum ∙ r.each i (omega (arith, within))

tapes_so : (m most : ℕ) (hs : List Handle) (ts : List Tape) → AreOnce hs → m + length hs ≡ most → map tape_view ts ≡ tapes_in m hs → TapesSo m most hs ts
tapes_so m most [] [] once sum e = record { numbered = tt; each = λ i low. absurd (omega (arith, low)) }
tapes_so m most [] (t ∷ ts) once sum e = cc
tapes_so m most (Absent ∷ hs) ts once sum e = no_tape m most Absent hs ts refl (tapes_so (suc m) most hs ts once.1 (omega (arith, sum)) e)
tapes_so m most (Dialing left ∷ hs) ts once sum e = no_tape m most (Dialing left) hs ts refl (tapes_so (suc m) most hs ts once.1 (omega (arith, sum)) e)
tapes_so m most (Joined there k x ∷ hs) [] once sum e = cc
tapes_so m most (Joined there k x ∷ hs) (t ∷ ts) once sum e =
    one_tape m most there k x hs t ts once.0 (omega (arith, sum)) (cc) (tapes_so (suc m) most hs ts once.1 (omega (arith, sum)) (cc))

-- how many were dialed
pub step_dials : (login : Login) (plans : Plans) (there : Bool) (aim : Aim) (statement : Option StatementView) (hs ts : List Handle) (step : Step) (o : Outcome) (us : List Use) → StepGrows login plans there aim statement hs step o us ts → length ts ≡ length hs + dialed_by step
step_dials login plans there aim statement hs ts steps.Conn o us r = ap length r.others ∙ length-append hs (r.made ∷ [])
step_dials login plans there aim statement hs ts (steps.Query m text) o us r = let e = ap length r.others ∙ put_length m r.made hs in omega arith
step_dials login plans there aim statement hs ts (steps.Prepare m text) o us r = let e = ap length r.others ∙ put_length m r.made hs in omega arith
step_dials login plans there aim statement hs ts (steps.Execute m number params) o us r = let e = ap length r.others ∙ put_length m r.made hs in omega arith
step_dials login plans there aim statement hs ts (steps.CloseStatement m number) o us r = let e = ap length r.others ∙ put_length m r.made hs in omega arith
step_dials login plans there aim statement hs ts (steps.Next m) o us r = let e = ap length r.others ∙ put_length m r.made hs in omega arith
step_dials login plans there aim statement hs ts (steps.Collect m) o us r = let e = ap length r.others ∙ put_length m r.made hs in omega arith
step_dials login plans there aim statement hs ts (steps.Drop m) o us r = let e = ap length r.others ∙ put_length m r.made hs in omega arith
step_dials login plans there aim statement hs ts (steps.Ping m) o us r = let e = ap length r.others ∙ put_length m r.made hs in omega arith
step_dials login plans there aim statement hs ts (steps.Reset m) o us r = let e = ap length r.others ∙ put_length m r.made hs in omega arith
step_dials login plans there aim statement hs ts (steps.User m change) o us r = let e = ap length r.others ∙ put_length m r.made hs in omega arith
step_dials login plans there aim statement hs ts (steps.Begin m opts) o us r = let e = ap length r.others ∙ put_length m r.made hs in omega arith
step_dials login plans there aim statement hs ts (steps.Commit m) o us r = let e = ap length r.others ∙ put_length m r.made hs in omega arith
step_dials login plans there aim statement hs ts (steps.Rollback m) o us r = let e = ap length r.others ∙ put_length m r.made hs in omega arith
step_dials login plans there aim statement hs ts (steps.ForgetTransaction m) o us r = let e = ap length r.others ∙ put_length m r.made hs in omega arith
step_dials login plans there aim statement hs ts (steps.Quit m) o us r = let e = ap length r.others ∙ put_length m r.made hs in omega arith
step_dials login plans there aim statement hs ts (steps.Stream m) o us r = let e = ap length r.others ∙ put_length m r.made hs in omega arith
step_dials login plans there aim statement hs ts (steps.Item m) o us r = let e = ap length r.others ∙ put_length m r.made hs in omega arith
step_dials login plans there aim statement hs ts (steps.Unstream m) o us r = let e = ap length r.others ∙ put_length m r.made hs in omega arith
step_dials login plans there aim statement hs ts (steps.Fields m) o us r = let e = ap length r.others ∙ put_length m r.made hs in omega arith
step_dials login plans there aim statement hs ts (steps.Poll m) o us r = let e = ap length r.others ∙ put_length m r.made hs in omega arith
step_dials login plans there aim statement hs ts (steps.Cancel m) o us r = let e = ap length r.others ∙ put_length m r.made hs in omega arith
step_dials login plans there aim statement hs ts (steps.Advance by) o us r = let e = ap length r.same in omega arith
step_dials login plans there aim statement hs ts (steps.Random word) o us r = let e = ap length r.same in omega arith

dialed_more : (ss : List Step) (s : Step) → dialed_in (ss ++ s ∷ []) ≡ dialed_in ss + dialed_by s
dialed_more [] s = omega arith
dialed_more (x ∷ ss) s = let more : dialed_in (ss ++ s ∷ []) ≡ dialed_in ss + dialed_by s = dialed_more ss s in omega arith

dialed_so : (login : Login) (plans : Plans) (ls : List Line) → AreGrown login plans ls → length (handles_after ls) ≡ dialed_in (steps_of ls)
dialed_so login plans [] grown = refl
dialed_so login plans (l ∷ ls) grown =
    let before : length (handles_after ls) ≡ dialed_in (steps_of ls) = dialed_so login plans ls grown.1 in
    let here : length l.handles ≡ length (handles_after ls) + dialed_by l.step = step_dials login plans _ _ _ (handles_after ls) l.handles l.step l.outcome l.uses grown.0.answer in
    let more : dialed_in (steps_of ls ++ l.step ∷ []) ≡ dialed_in (steps_of ls) + dialed_by l.step = dialed_more (steps_of ls) l.step in
    omega arith

-- at each number
explained_at : (login : Login) (lines : List Line) → EachExplained login lines → (n : ℕ) → IsExplained login (at_number (handles_after lines) n)
explained_at login [] w n = tt
explained_at login (l ∷ ls) w n = w.0 n

all_for : (login : Login) (h : Handle) → IsExplained login h → AreCalls login (reading login (tape_for h)).calls
unfolding reading read_calls
all_for login Absent e = tt
all_for login (Dialing left) e = tt
all_for login (Joined there k x) e = e

over_placed : (login : Login) (hs : List Handle) (n : ℕ) (w : Walk) → AreCalls login (reading login (tape_for (at_number hs n))).calls → Placed login (tape_for (at_number hs n)) n hs w
    → IsOver login (shown_tape (tape_for (at_number hs n))) w w.spot.status
over_placed login hs n w all placed = by_number (less_or n (length hs))
  where
    by_number : ((nat_lt n (length hs) ≡ true) × (n < length hs)) ⊎ ((nat_lt n (length hs) ≡ false) × (length hs ≤ n)) → IsOver login (shown_tape (tape_for (at_number hs n))) w w.spot.status
    by_number (inl low) = over_so login (at_number hs n) w all (placed.there low.1)
    by_number (inr high) =
        let ahead = placed.ahead high.1 in
        subst (λ (h : Handle). IsOver login (shown_tape (tape_for h)) w w.spot.status) (sym (past hs n high.1)) (over_by login (shown_tape (tape_for Absent)) w (status.Ahead (n - length hs)) ahead.0 (nothing_over login w ahead.1))

pub each_run_is_right : EachRunIsRight
each_run_is_right login plans before later steps answers tapes h = record {
  numbered = subst (λ m. AreTapes 0 m tapes) count all_tapes.numbered;
  each = λ n within. subst (λ (s : TapeSeen). AreLines login n s 0 nothing_made (start login n) steps answers) (sym (tape_is n)) (lines_at n);
}
  where
    hs : List Handle
    hs = handles_after h.lines

    count : length (handles_after h.lines) ≡ dialed_in steps
    count = dialed_so login plans h.lines h.grown ∙ ap dialed_in h.steps_are

    all_tapes : TapesSo 0 (length (handles_after h.lines)) (handles_after h.lines) tapes
    all_tapes = tapes_so 0 (length (handles_after h.lines)) (handles_after h.lines) tapes (grown_once login plans h.lines h.grown) (omega arith) h.tapes_are

    tape_is : (n : ℕ) → seen_at n tapes ≡ shown_tape (tape_for (at_number (handles_after h.lines) n))
    tape_is n = by_number (less_or n (length (handles_after h.lines)))
      where
        by_number : ((nat_lt n (length (handles_after h.lines)) ≡ true) × (n < length (handles_after h.lines))) ⊎ ((nat_lt n (length (handles_after h.lines)) ≡ false) × (length (handles_after h.lines) ≤ n))
            → seen_at n tapes ≡ shown_tape (tape_for (at_number (handles_after h.lines) n))
        by_number (inl low) = let same : n ≡ 0 + n = omega arith in ap (λ m. seen_at m tapes) same ∙ all_tapes.each n low.1
        by_number (inr high) = above_none n 0 (length (handles_after h.lines)) tapes all_tapes.numbered high.1 ∙ ap (λ (z : Handle). shown_tape (tape_for z)) (sym (past (handles_after h.lines) n high.1))

    lines_at : (n : ℕ) → AreLines login n (shown_tape (tape_for (at_number (handles_after h.lines) n))) 0 nothing_made (start login n) steps answers
    lines_at n =
        let last = at_number (handles_after h.lines) n in
        let all = all_for login last (explained_at login h.lines h.explained n) in
        let r : RanSo login plans (tape_for last) all n h.lines = ran login plans (tape_for last) all n h.lines h.grown h.explained (has_for last) in
        let shown = r.reaches [] [] (over_placed login (handles_after h.lines) n r.walk all r.placed) in
        shown_lines login n (shown_tape (tape_for last)) 0 nothing_made (start login n) steps answers
        (subst (λ vs. AreShown login n (shown_tape (tape_for last)) 0 nothing_made (start login n) steps vs) (append-nil (answers_of h.lines) ∙ sym h.answered)
        (subst (λ ss. AreShown login n (shown_tape (tape_for last)) 0 nothing_made (start login n) ss (answers_of h.lines ++ [])) (append-nil (steps_of h.lines) ∙ h.steps_are) shown))

-- a first wrong line is none of a right transcript
wrong_lines : (login : Login) (n : ℕ) (t : TapeSeen) (index k : ℕ) (m : Made) (w : Walk) (ss : List Step) (bs : List StepAnswer) → FirstWrong login n t index k m w ss bs → AreLines login n t k m w ss bs → ⊥
wrong_lines login n t index k m w [] [] f r = f.1 r
wrong_lines login n t index k m w [] (b ∷ bs) f r = r
wrong_lines login n t index k m w (step ∷ ss) [] f r = r
wrong_lines login n t index k m w (step ∷ ss) (b ∷ bs) (inl f) r = f.1 r.0
wrong_lines login n t index k m w (step ∷ ss) (b ∷ bs) (inr f) r = wrong_lines login n t index (k + 1) _ _ ss bs f.1 r.1

pub each_refusal_refutes : EachRefusalRefutes
each_refusal_refutes login steps answers tapes line found plans before later h = by_cause found.wrong (each_run_is_right login plans before later steps answers tapes h)
  where
    by_cause : IsWrongBelow (FoundAt login steps answers tapes) line (dialed_in steps + 1) ⊎ ((line ≡ length steps) × (AreTapes 0 (dialed_in steps) tapes → ⊥)) → AreRight login steps answers tapes → ⊥
    by_cause (inl w) r = wrong_lines login w.number (seen_at w.number tapes) line 0 nothing_made (start login w.number) steps answers w.is (r.each w.number w.below)
    by_cause (inr w) r = w.1 r.numbered
