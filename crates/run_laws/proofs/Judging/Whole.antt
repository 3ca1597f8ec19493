-- A whole run, at one number.
use Rattle.std.proofs.Common.{◌≡◌, ℕ, ◌+◌, ◌-◌, List, [], ◌∷◌, ◌++◌, length, map, slice_get, true, false, Option, Some, None, refl, sym, ap, ◌∙◌, subst, arith, length-append, is_some}
use Rattle.std.proofs.lemmas.List.{append_assoc, length-map}
use Rattle.my_grammar.specs.declared.login.Login.{Login}
use Rattle.my_value.specs.RowParts.{RowParts}
use Rattle.my_reading.specs.Endings.{AreCalls, IsCall}
use Rattle.my_reading.specs.Reading.{reading}
use Rattle.my_reading.specs.Tape.{Span, Tape, between}
use Rattle.my_script.specs.declared.aim.Aim.{Aim}
use Rattle.my_script.specs.declared.step.Step.{Step}
use Rattle.my_script.specs.Beside.{finds}
use Rattle.my_script.specs.Streams.{target}
use Rattle.my_script.specs.declared.transcript.StepAnswer.{StepAnswer}
use Rattle.my_run_judge.specs.declared.act.Status.{Status}
use Rattle.my_run_judge.specs.declared.act.Status.TheVariants as status
use Rattle.my_run_judge.specs.declared.act.Act.{Act}
use Rattle.my_run_judge.specs.Acts.{act_with}
use Rattle.my_client.specs.Kept.{Asked, Kept, nothing_kept}
use Rattle.my_client.specs.Reads.{calls_kept, tape_kept}
use Rattle.my_judge.specs.Reads.{read_of}
use Rattle.my_judge.specs.Settled.{settled}
use Rattle.my_link.specs.World.{Plans}
use Rattle.my_steps.specs.Grows.{AreGrown, Line, StepGrows, aim_at, beside_of, handles_after, is_found, statements_of}
use Rattle.my_steps.specs.Handle.{Handle, Absent, Dialing, Joined, at_number}
use Rattle.my_run.specs.Headline.{AnswerView, EachExplained, answer_view, answers_of, steps_of}
use Rattle.run_laws.proofs.Connecting.{grown_once}
use Rattle.my_run_judge.specs.Lines.{ActRight, AreLines, EndsUnanswered, IsOver, after_act, ground_at, is_unanswered}
use Rattle.my_run_judge.specs.declared.made.Made.{Made}
use Rattle.my_run_judge.specs.Made.{made_by, nothing_made, statement_for}
use Rattle.my_run_judge.specs.Seen.{TapeSeen}
use Rattle.my_run_judge.specs.Walks.{EndsAt, EndsRight, Walk, sent_end, span_of, start}
use Rattle.run_laws.proofs.Judging.Going.{GoesOn, call_after, call_here, goes_here, kept_length, open_of, rest_kept, shown_call, shown_tape}
use Rattle.run_laws.proofs.Judging.Tying.{AtWalk, at_first, from_of, sent_of, step_right}
use Rattle.run_laws.proofs.Judging.Gathering.{HasTape}
use Rattle.run_laws.proofs.Judging.Stepping.{OpenAs, Spotted, Tied}
use Rattle.run_laws.proofs.Judging.Failing.{lines_live}
use Rattle.run_laws.proofs.Judging.Running.{Placed, RunsLine, RunsSo, line_so}

-- the lines, by what is shown of their answers
abbrev act_shown : ℕ → Made → Walk → Step → AnswerView → Act
act_shown n m w step v = act_with (finds m.beside step) (is_some (statement_for m step)) m.beside.aim w.spot.status n w.spot.next (ground_at w) step v.outcome (length v.uses)

abbrev LineShown : Login → ℕ → TapeSeen → ℕ → Made → Walk → Step → AnswerView → Type 0
LineShown login n t k m w step v = (v.number ≡ k + 1) × ActRight login n t (statement_for m step) w step v.outcome v.uses (act_shown n m w step v)

abbrev after_shown : Login → ℕ → TapeSeen → Made → Walk → Step → AnswerView → Walk
after_shown login n t m w step v = after_act login t w v.outcome v.uses (act_shown n m w step v)

abbrev pub AreShown : Login → ℕ → TapeSeen → ℕ → Made → Walk → List Step → List AnswerView → Type 0
AreShown login n t k m w [] [] = IsOver login t w w.spot.status
AreShown login n t k m w [] (v ∷ vs) = ⊥
AreShown login n t k m w (step ∷ ss) [] = ⊥
AreShown login n t k m w (step ∷ ss) (v ∷ vs) = LineShown login n t k m w step v × AreShown login n t (k + 1) (made_by n m step v.outcome) (after_shown login n t m w step v) ss vs

pub shown_lines : (login : Login) (n : ℕ) (t : TapeSeen) (k : ℕ) (m : Made) (w : Walk) (ss : List Step) (bs : List StepAnswer) → AreShown login n t k m w ss (map answer_view bs) → AreLines login n t k m w ss bs
shown_lines login n t k m w [] [] r = r
shown_lines login n t k m w [] (b ∷ bs) r = r
shown_lines login n t k m w (step ∷ ss) [] r = r
shown_lines login n t k m w (step ∷ ss) (b ∷ bs) r = (r.0, shown_lines login n t (k + 1) _ _ ss bs r.1)

-- what lines made
abbrev pub made_of : ℕ → List Line → Made
made_of n ls = record { beside = beside_of n ls; statements = statements_of ls }

module _ (login : Login) (plans : Plans) (t : Tape) (all : AreCalls login (reading login t).calls) (n : ℕ) where
  -- after these lines
  pub record RanSo (ls : List Line) : Type 0 where
    pub walk : Walk
    pub placed : Placed login t n (handles_after ls) walk
    pub reaches : (ss : List Step) (vs : List AnswerView) → AreShown login n (shown_tape t) (length ls) (made_of n ls) walk ss vs
        → AreShown login n (shown_tape t) 0 nothing_made (start login n) (steps_of ls ++ ss) (answers_of ls ++ vs)

  pub ran : (ls : List Line) → AreGrown login plans ls → EachExplained login ls → HasTape t (at_number (handles_after ls) n) → RanSo ls
  ran [] grown said has = record {
    walk = start login n;
    placed = record {
      there = λ low. absurd (omega (arith, low));
      ahead = λ high. (let e : n ≡ n - 0 = omega arith in ap status.Ahead e, at_first login n);
    };
    reaches = λ ss vs r. r;
  }
  ran (l ∷ ls) grown said has =
      let found = finds (beside_of n ls) l.step in
      let aim : Aim = (beside_of n ls).aim in
      let statement = statement_for (made_of n ls) l.step in
      let grows : StepGrows login plans (is_found (target l.step) l.step ls) (aim_at (target l.step) ls) statement (handles_after ls) l.step l.outcome l.uses l.handles =
      grown.0.answer in
      let s : RunsSo login t n found aim statement (handles_after ls) l.handles l.step l.outcome l.uses =
      line_so login t all n found (is_found (target l.step) l.step ls) aim (aim_at (target l.step) ls) statement plans (handles_after ls) l.handles l.step l.outcome l.uses (ap (λ q. is_found q l.step ls)) (ap (λ q. aim_at q ls)) (lines_live login ls said.1) (grown_once login plans ls grown.1) grows has in
      let before : RanSo ls = ran ls grown.1 said.1 s.back in
      let line : RunsLine login t n found aim statement l.handles l.step l.outcome l.uses before.walk = s.forth before.walk before.placed in
      let view : AnswerView = record { number = l.number; outcome = l.outcome; uses = l.uses } in
      let count : length (l ∷ ls) ≡ length ls + 1 = omega arith in
      record {
        walk = after_act login (shown_tape t) before.walk l.outcome l.uses line.act;
        placed = line.placed;
        reaches = λ ss vs r.
            subst (λ xs. AreShown login n (shown_tape t) 0 nothing_made (start login n) xs ((answers_of ls ++ view ∷ []) ++ vs)) (sym (append_assoc (steps_of ls) (l.step ∷ []) ss))
            (subst (λ ys. AreShown login n (shown_tape t) 0 nothing_made (start login n) (steps_of ls ++ l.step ∷ ss) ys) (sym (append_assoc (answers_of ls) (view ∷ []) vs))
            (before.reaches (l.step ∷ ss) (view ∷ vs) (
              (grown.0.number, subst (ActRight login n (shown_tape t) statement before.walk l.step l.outcome l.uses) (sym line.act_is) line.right),
              subst (λ act. AreShown login n (shown_tape t) (length ls + 1) (made_of n (l ∷ ls)) (after_act login (shown_tape t) before.walk l.outcome l.uses act) ss vs) (sym line.act_is)
                  (subst (λ m. AreShown login n (shown_tape t) m (made_of n (l ∷ ls)) (after_act login (shown_tape t) before.walk l.outcome l.uses line.act) ss vs) count r),
            )));
      }

-- the tape of what is at a number
abbrev pub nothing_taped : Tape
nothing_taped = record { sent = []; taken = []; calls = [] }

abbrev pub tape_for : Handle → Tape
tape_for Absent = nothing_taped
tape_for (Dialing left) = nothing_taped
tape_for (Joined there k x) = tape_kept k

pub has_for : (h : Handle) → HasTape (tape_for h) h
has_for Absent = tt
has_for (Dialing left) = tt
has_for (Joined there k x) = (rest_kept k.pending, goes_here k)

-- at the end of the lines
pub nothing_over : (login : Login) (w : Walk) → AtWalk login nothing_kept w → (w.spot.next ≡ 0) × (w.spot.taken ≡ 0)
nothing_over login w at = (at.next_is, at.taken_is)

module _ (login : Login) (k : Kept) (all : AreCalls login (reading login (tape_kept k)).calls) (w : Walk) (at : AtWalk login k w) where
  rest_over : k.pending ≡ None → (w.spot.next ≡ length (map shown_call (calls_kept k.calls k.pending))) × (w.spot.taken ≡ length k.taken)
  rest_over none = (at.next_is ∙ sym (kept_length k.calls) ∙ ap (λ q. length (calls_kept k.calls q)) (sym none) ∙ sym (length-map (calls_kept k.calls k.pending) shown_call), at.taken_is)

  module _ (a : Asked) (some : k.pending ≡ Some a) where
    goes : GoesOn (tape_kept k) k (open_of a ∷ [])
    goes = subst (λ q. GoesOn (tape_kept k) k (rest_kept q)) some (goes_here k)

    here : slice_get (map shown_call (calls_kept k.calls k.pending)) w.spot.next ≡ Some (shown_call (open_of a))
    here = call_here (tape_kept k) k (open_of a) [] goes w.spot.next at.next_is

    span_there : span_of (shown_tape (tape_kept k)) false w.spot (shown_call (open_of a)) ≡ record { call = a.call; sent = between a.sent_from (length k.sent) k.sent; taken = between a.taken_from (length k.taken) k.taken; ending = None }
    span_there =
        ap (λ o. let s : Span = record { call = a.call; sent = between a.sent_from (sent_end o (shown_tape (tape_kept k))) k.sent; taken = between w.spot.from w.spot.taken k.taken; ending = None } in s) (call_after (tape_kept k) k (open_of a) [] goes w.spot.next at.next_is)
        ∙ ap (λ m. let s : Span = record { call = a.call; sent = between a.sent_from (length k.sent) k.sent; taken = between m w.spot.taken k.taken; ending = None } in s) (at.from_is ∙ ap (from_of k) some)
        ∙ ap (λ m. let s : Span = record { call = a.call; sent = between a.sent_from (length k.sent) k.sent; taken = between a.taken_from m k.taken; ending = None } in s) at.taken_is

    pub open_over : (w.spot.next + 1 ≡ length (map shown_call (calls_kept k.calls k.pending))) × (w.spot.taken ≡ length k.taken) × EndsUnanswered login (shown_tape (tape_kept k)) false w
    open_over =
        let sum : length (calls_kept k.calls None ++ open_of a ∷ []) ≡ length k.calls + 1 = length-append (calls_kept k.calls None) (open_of a ∷ []) ∙ ap (λ m. m + 1) (kept_length k.calls) in
        let r : EndsRight login (shown_tape (tape_kept k)) false w (shown_call (open_of a)) = record {
          sent_from = sym (at.sent_is ∙ ap (sent_of k) some);
          call = subst (λ (s : Span). IsCall login (read_of login w.closed (settled login w.closed s w.place) w.place)) (sym span_there)
              (step_right login _ [] w.closed w.place ((at.reads (tape_kept k) (open_of a ∷ []) goes).right all)).0;
        } in (
          ap (λ m. m + 1) at.next_is ∙ sym sum ∙ ap length (sym goes.calls) ∙ sym (length-map (calls_kept k.calls k.pending) shown_call),
          at.taken_is,
          (subst is_unanswered (sym here) refl, subst (EndsAt login (shown_tape (tape_kept k)) false w) (sym here) r),
        )

pub over_by : (login : Login) (t : TapeSeen) (w : Walk) (s : Status) → w.spot.status ≡ s → IsOver login t w s → IsOver login t w w.spot.status
over_by login t w s e r = subst (IsOver login t w) (sym e) r

pub over_so : (login : Login) (h : Handle) (w : Walk) → AreCalls login (reading login (tape_for h)).calls → Tied login (tape_for h) h w → IsOver login (shown_tape (tape_for h)) w w.spot.status
over_so login Absent w all tied = over_by login (shown_tape nothing_taped) w status.Absent tied.0 (nothing_over login w tied.1)
over_so login (Dialing left) w all tied = over_by login (shown_tape nothing_taped) w status.Dialing tied.0 (nothing_over login w tied.1)
over_so login (Joined false k x) w all tied = over_by login (shown_tape (tape_kept k)) w status.Absent tied.0.0 (rest_over login k all w tied.1 tied.0.1)
over_so login (Joined true k x) w all tied = by_pending k.pending refl tied.0
  where
    by_rows : (a : Asked) → k.pending ≡ Some a → (rows : Option (List RowParts)) → OpenAs (tape_kept k) a rows w.spot → IsOver login (shown_tape (tape_kept k)) w w.spot.status
    by_rows a e None s = over_by login (shown_tape (tape_kept k)) w status.Open s (open_over login k all w tied.1 a e)
    by_rows a e (Some rows) s = over_by login (shown_tape (tape_kept k)) w (status.Gathers s.0) s.2 (open_over login k all w tied.1 a e)

    by_pending : (q : Option Asked) → k.pending ≡ q → Spotted (tape_kept k) true q w.spot → IsOver login (shown_tape (tape_kept k)) w w.spot.status
    by_pending None e s = over_by login (shown_tape (tape_kept k)) w status.Idle s (rest_over login k all w tied.1 e)
    by_pending (Some a) e s = by_rows a e a.rows s
