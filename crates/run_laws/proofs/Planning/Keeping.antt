-- The transcript of each run keeps to the plan.
use Rattle.std.proofs.Common.{◌≡◌, ◌⊎◌, inl, inr, ℕ, zero, suc, ◌+◌, ◌-◌, ◌==◌, List, [], ◌∷◌, ◌++◌, length, map, Bool, true, Some, refl, sym, ap, ◌∙◌, subst, arith, if◌then◌else◌}
use Rattle.std.proofs.lemmas.Bool.Decides.{nat_tests}
use Rattle.std.proofs.lemmas.List.{append-nil}
use Rattle.my_grammar.specs.declared.login.Login.{Login}
use Rattle.my_link.specs.declared.dialer.DialItem.{DialItem}
use Rattle.my_link.specs.declared.link.ReadItem.{ReadItem}
use Rattle.my_link.specs.declared.link.WriteItem.{WriteItem}
use Rattle.my_link.specs.Looks.{Looks}
use Rattle.my_link.specs.Spent.{spelled}
use Rattle.my_client.specs.Kept.{Kept}
use Rattle.my_script.specs.declared.step.Step.{Step}
use Rattle.my_script.specs.declared.transcript.StepAnswer.{StepAnswer}
use Rattle.my_script.specs.declared.transcript.Tape.{Tape}
use Rattle.my_link.specs.declared.line.WorldLine.{WorldLine}
use Rattle.my_link.specs.Plan.{all_given, dials_of, items_of, writes_of}
use Rattle.my_link.specs.World.{Plans}
use Rattle.my_steps.specs.Grows.{AreGrown, Line, handles_after}
use Rattle.my_steps.specs.Handle.{Handle, Absent, Dialing, Joined, at_number}
use Rattle.my_run.specs.Headline.{AnswerView, answer_view, answers_of}
use Rattle.my_run.specs.Tapes.{TapeView, tape_of, tape_view, tapes_in}
use Rattle.my_run_judge.specs.declared.judging.Found.{Found}
use Rattle.my_run_judge.specs.declared.judging.Found.TheVariants.{Right, Wrong}
use Rattle.my_run_judge.specs.Transcripts.{IsFoundIn, IsWrongBelow, dialed_in, earlier}
use Rattle.run_laws.proofs.Judging.Accepted as judged
use Rattle.my_run_judge.specs.declared.plan.left.Left.{Left}
use Rattle.my_run_judge.specs.Plan.Left.{alike, first_left}
use Rattle.my_run_judge.specs.declared.plan.dials.DialSpot.{DialSpot}
use Rattle.my_run_judge.specs.declared.plan.dials.DialSpot.TheVariants.{Ahead}
use Rattle.my_run_judge.specs.Plan.Dials.{DialsKept, FirstUndialed, after_step, left_by}
use Rattle.my_run_judge.specs.Plan.Lines.{FirstUnkept, LinesKept}
use Rattle.my_run_judge.specs.Plan.Planned.{before_end, planned}
use Rattle.my_run_judge.specs.Plan.Runs.{ArePlanned, DialsAt, EachKept, IsFirstUnplanned, OneUnkept, PlansFound, TapeFound}
use Rattle.run_laws.specs.Planned.{ArePlansOf, EachPlannedRunIsRight, EachPlannedRefusalRefutes, MemoryTells}
use Rattle.run_laws.proofs.Planning.Dialing.{each_dialed}
use Rattle.run_laws.proofs.Planning.Running.{AreShown, HasRoom, NumberRoom, RanSo, Stands, first, ran, shown_lines}
use Rattle.run_laws.proofs.Planning.Spending.{left_at}
use Rattle.run_laws.proofs.Planning.Walking.{StandsIn}

-- the bytes that were taken are the first of the plan's
alike_front : (xs ys : List ℕ) → alike xs (xs ++ ys) ≡ length xs
alike_front [] ys = refl
alike_front (x ∷ xs) ys =
    let same : (x == x) ≡ true = grind (arith, nat_tests) in
    ap (λ b. if b then suc (alike xs (xs ++ ys)) else 0) same ∙ ap suc (alike_front xs ys)

module _ (login : Login) (plans : Plans) (lines : List WorldLine) (told : ArePlansOf lines plans) where
  abbrev reads_at : ℕ → List ReadItem
  reads_at n = all_given items_of n lines

  abbrev writes_at : ℕ → List WriteItem
  writes_at n = all_given writes_of n lines

  module _ (ls : List Line) (grown : AreGrown login plans ls) (answers : List StepAnswer) (answered : map answer_view answers ≡ answers_of ls) where
    -- what a link that took these bytes began with
    first_is : (n : ℕ) (x : Looks) (taken : List ℕ) (left : Left) → StandsIn (spelled (before_end (reads_at n))) (length taken) x taken left → first_left (planned n lines) taken ≡ left_at (length taken) 0 (reads_at n) (writes_at n)
    first_is n x taken left s = both (alike taken (spelled (before_end (reads_at n)))) (ap (alike taken) s.bytes ∙ alike_front taken (spelled (before_end s.reads)))
      where
        both : (a : ℕ) → a ≡ length taken → (let p = planned n lines in let l : Left = record { faults = p.faults; bytes = a; until_end = length p.bytes; ends = p.ends; others = length taken - a } in l) ≡ left_at (length taken) 0 (reads_at n) (writes_at n)
        both a e = left_as _ _ _ _ _ (omega (arith, e)) (omega (arith, e))
          where
            left_as : (f b c u : ℕ) (g : Bool) → b ≡ length taken - 0 → c ≡ 0 → (let l : Left = record { faults = f; bytes = b; until_end = u; ends = g; others = c } in l) ≡ (let m : Left = record { faults = f; bytes = length taken - 0; until_end = u; ends = g; others = 0 } in m)
            left_as f b c u g i j = cc

    link_kept : (n : ℕ) (there : Bool) (k : Kept) (x : Looks) → at_number (handles_after ls) n ≡ Joined there k x → LinesKept n (first_left (planned n lines) k.taken) answers
    link_kept n there k x e = subst (λ (l : Left). LinesKept n l answers) (sym (first_is n x k.taken r.left stands)) (shown_lines n _ answers shown)
      where
        room : NumberRoom login plans reads_at writes_at told.reads told.writes n (length k.taken) (handles_after ls)
        room low = subst (HasRoom n (reads_at n) (writes_at n) (length k.taken)) (sym e) (omega arith)

        r : RanSo login plans reads_at writes_at told.reads told.writes n (length k.taken) ls
        r = ran login plans reads_at writes_at told.reads told.writes n (length k.taken) ls grown room

        stands : StandsIn (spelled (before_end (reads_at n))) (length k.taken) x k.taken r.left
        stands = subst (λ (h : Handle). Stands n (reads_at n) (writes_at n) (length k.taken) h r.left) e r.stands

        shown : AreShown n (first n (reads_at n) (writes_at n) (length k.taken)) (map answer_view answers)
        shown = subst (λ (vs : List AnswerView). AreShown n (first n (reads_at n) (writes_at n) (length k.taken)) vs) (append-nil (answers_of ls) ∙ sym answered) (r.reaches [] (ap (λ (l : Left). l.others) stands.left_is))

    abbrev KeptAt : ℕ → Handle → Type 0
    KeptAt n Absent = Unit {0}
    KeptAt n (Dialing left) = Unit {0}
    KeptAt n (Joined there k x) = LinesKept n (first_left (planned n lines) k.taken) answers

    kept_at : (n : ℕ) (h : Handle) → at_number (handles_after ls) n ≡ h → KeptAt n h
    kept_at n Absent e = tt
    kept_at n (Dialing left) e = tt
    kept_at n (Joined there k x) e = link_kept n there k x e

    tape_found : (n : ℕ) (k : Kept) (t : Tape) → tape_view t ≡ tape_of n k → LinesKept n (first_left (planned n lines) k.taken) answers → TapeFound lines answers t Right
    tape_found n k t e r =
        let number : t.number ≡ n = ap (λ (v : TapeView). v.number) e in
        let taken : t.taken.items ≡ k.taken = ap (λ (v : TapeView). v.taken) e in
        subst (λ m. LinesKept m (first_left (planned m lines) t.taken.items) answers) (sym number) (subst (λ bs. LinesKept n (first_left (planned n lines) bs) answers) (sym taken) r)

    -- the tapes of the numbers from this one on
    later : (m : ℕ) (h : Handle) (hs : List Handle) → ((i : ℕ) → KeptAt (m + i) (at_number (h ∷ hs) i)) → (i : ℕ) → KeptAt (suc m + i) (at_number hs i)
    later m h hs all i = let same : m + suc i ≡ suc m + i = omega arith in subst (λ n. KeptAt n (at_number hs i)) same (all (suc i))

    now : (m : ℕ) (h : Handle) (hs : List Handle) → ((i : ℕ) → KeptAt (m + i) (at_number (h ∷ hs) i)) → KeptAt m h
    now m h hs all = let same : m + zero ≡ m = omega arith in subst (λ n. KeptAt n h) same (all zero)

    tapes_kept : (m : ℕ) (hs : List Handle) (ts : List Tape) → map tape_view ts ≡ tapes_in m hs → ((i : ℕ) → KeptAt (m + i) (at_number hs i)) → EachKept lines answers ts
    tapes_kept m [] [] e all = tt
    tapes_kept m [] (t ∷ ts) e all = cc
    tapes_kept m (Absent ∷ hs) ts e all = tapes_kept (suc m) hs ts e (later m Absent hs all)
    tapes_kept m (Dialing left ∷ hs) ts e all = tapes_kept (suc m) hs ts e (later m (Dialing left) hs all)
    tapes_kept m (Joined there k x ∷ hs) [] e all = cc
    tapes_kept m (Joined there k x ∷ hs) (t ∷ ts) e all = (tape_found m k t (cc) (now m (Joined there k x) hs all), tapes_kept (suc m) hs ts (cc) (later m (Joined there k x) hs all))

pub each_planned_run_is_right : EachPlannedRunIsRight
each_planned_run_is_right login plans before later steps answers tapes lines told h = record {
  right = judged.each_run_is_right login plans before later steps answers tapes h;
  planned = record {
    dials = λ n low. each_dialed login plans lines told n h.lines h.grown steps answers h.steps_are h.answered;
    links = tapes_kept login plans lines told h.lines h.grown answers h.answered 0 (handles_after h.lines) tapes h.tapes_are
        (λ i. let same : i ≡ 0 + i = omega arith in subst (λ n. KeptAt login plans lines told h.lines h.grown answers h.answered n (at_number (handles_after h.lines) i)) same
        (kept_at login plans lines told h.lines h.grown answers h.answered i (at_number (handles_after h.lines) i) refl));
  };
}

-- what is first wrong isn't kept
unkept : (n line k : ℕ) (left : Left) (bs : List StepAnswer) → FirstUnkept n line k left bs → LinesKept n left bs → ⊥
unkept n line k left [] f r = f.1 r
unkept n line k left (b ∷ bs) (inl f) r = f.1 r.0
unkept n line k left (b ∷ bs) (inr f) r = unkept n line (k + 1) _ bs f.1 r.1

undialed : (n line k : ℕ) (spot : DialSpot) (items : List DialItem) (ss : List Step) (bs : List StepAnswer) → FirstUndialed n line k spot items ss bs → DialsKept n spot items ss bs → ⊥
undialed n line k spot items [] bs f r = f
undialed n line k spot items (s ∷ ss) [] f r = f
undialed n line k spot items (s ∷ ss) (b ∷ bs) (inl f) r = f.1 r.0
undialed n line k spot items (s ∷ ss) (b ∷ bs) (inr f) r = undialed n line (k + 1) (after_step n spot items s) (left_by n spot items s) ss bs f.1 r.1

one_unkept : (lines : List WorldLine) (answers : List StepAnswer) (line : ℕ) (ts : List Tape) → OneUnkept lines answers line ts → EachKept lines answers ts → ⊥
one_unkept lines answers line [] f r = f
one_unkept lines answers line (t ∷ ts) (inl f) r = unkept t.number line 0 _ answers f r.0
one_unkept lines answers line (t ∷ ts) (inr f) r = one_unkept lines answers line ts f r.1

unplanned : (lines : List WorldLine) (steps : List Step) (answers : List StepAnswer) (tapes : List Tape) (line : ℕ) → IsFirstUnplanned lines steps answers tapes line → ArePlanned lines steps answers tapes → ⊥
unplanned lines steps answers tapes line f r = by_cause f.wrong
  where
    by_cause : IsWrongBelow (DialsAt lines steps answers) line (dialed_in steps) ⊎ OneUnkept lines answers line tapes → ⊥
    by_cause (inl w) = undialed w.number line 0 (Ahead w.number) (all_given dials_of w.number lines) steps answers w.is (r.dials w.number w.below)
    by_cause (inr w) = one_unkept lines answers line tapes w r.links

pub each_refusal_refutes : EachPlannedRefusalRefutes
each_refusal_refutes login lines steps answers tapes line f plans before later told h = by_found f.transcript f.plan f.transcript_is f.plan_is f.line_is
  where
    by_found : (transcript plan : Found) → IsFoundIn login steps answers tapes transcript → PlansFound lines steps answers tapes plan → earlier transcript plan ≡ Wrong line → ⊥
    by_found Right Right t p e = absurd (let k : Right ≡ Wrong line = e in cc)
    by_found Right (Wrong second) t p e = unplanned lines steps answers tapes second p (each_planned_run_is_right login plans before later steps answers tapes lines told h).planned
    by_found (Wrong one) plan t p e = judged.each_refusal_refutes login steps answers tapes one t plans before later h

pub memory_tells : MemoryTells
memory_tells links dials counts moment randoms ended lost lines none free = record {
  reads = λ n. ap (λ is. Some (is.reads ++ all_given items_of n lines)) (none n);
  writes = λ n. ap (λ is. Some (is.writes ++ all_given writes_of n lines)) (none n);
  dials = λ n. ap (λ is. Some (is ++ all_given dials_of n lines)) (free n);
}
