-- All lines of a run, at the dials of one number.
use Rattle.std.proofs.Common.{◌≡◌, ◌≢◌, ◌⊎◌, ◌<◌, inl, inr, ℕ, ◌+◌, ◌==◌, List, [], ◌∷◌, ◌++◌, length, drop, map, Bool, true, false, Option, Some, None, refl, sym, ap, ◌∙◌, subst, arith, length-append, if◌then◌else◌}
use Rattle.std.proofs.lemmas.Bool.Decides.{nat_tests}
use Rattle.std.proofs.lemmas.List.{append_assoc, append-nil}
use Rattle.my_params.specs.declared.params.Params.{Params}
use Rattle.my_statements.specs.Prepared.{StatementView}
use Rattle.my_grammar.specs.declared.login.Login.{Login}
use Rattle.my_reading.specs.declared.call.Call.TheVariants as calls
use Rattle.my_link.specs.Link.{Told}
use Rattle.my_link.specs.declared.dialer.DialItem.{DialItem}
use Rattle.my_link.specs.declared.dialer.DialItem.TheVariants as items
use Rattle.my_link.specs.declared.link.ReadItem.{ReadItem}
use Rattle.my_link.specs.declared.link.WriteItem.{WriteItem}
use Rattle.my_script.specs.declared.action.Work.{Work}
use Rattle.my_script.specs.declared.action.Work.TheVariants as works
use Rattle.my_script.specs.Actions.{close_work, execute_work, found_work}
use Rattle.my_script.specs.declared.aim.Aim.{Aim}
use Rattle.my_script.specs.declared.step.Step.{Step}
use Rattle.my_script.specs.declared.step.Step.TheVariants as steps
use Rattle.my_script.specs.declared.transcript.Outcome.{Outcome}
use Rattle.my_script.specs.declared.transcript.StepAnswer.{StepAnswer}
use Rattle.my_script.specs.declared.transcript.Use.{Use}
use Rattle.my_link.specs.declared.line.WorldLine.{WorldLine}
use Rattle.my_link.specs.Plan.{all_given, dials_of}
use Rattle.my_link.specs.World.{Plans, HeldBy, FailedBy, GivenBy}
use Rattle.my_steps.specs.Grows.{At, AreGrown, Dials, Holds, Fails, Links, GoesOn, Line, StepGrows, handles_after, WorkAt}
use Rattle.my_steps.specs.Handle.{Handle, Dialing, at_number}
use Rattle.my_run.specs.Headline.{AnswerView, answer_view, answers_of, steps_of}
use Rattle.my_run_judge.specs.Transcripts.{dialed_by}
use Rattle.run_laws.proofs.Judging.Accepted.{step_dials}
use Rattle.run_laws.proofs.Judging.Running.{push_before, push_last, put_here, put_length, put_there, same_or}
use Rattle.my_run_judge.specs.declared.plan.dials.DialSpot.{DialSpot}
use Rattle.my_run_judge.specs.declared.plan.dials.DialSpot.TheVariants.{Ahead, Held, Over}
use Rattle.my_run_judge.specs.Plan.Dials.{DialKept, DialsKept, FirstMet, LineDials, after_step, dial_leaves, dial_meets, items_after, left_by, spot_after}
use Rattle.run_laws.specs.Planned.{ArePlansOf}

-- the lines, by what is shown of their answers
abbrev DialsShown : ℕ → DialSpot → List DialItem → List Step → List AnswerView → Type 0
DialsShown n spot left [] vs = Unit {0}
DialsShown n spot left (s ∷ ss) [] = Unit {0}
DialsShown n spot left (s ∷ ss) (v ∷ vs) = LineDials n spot left s v.uses × DialsShown n (after_step n spot left s) (left_by n spot left s) ss vs

shown_dials : (n : ℕ) (spot : DialSpot) (left : List DialItem) (ss : List Step) (bs : List StepAnswer) → DialsShown n spot left ss (map answer_view bs) → DialsKept n spot left ss bs
shown_dials n spot left [] bs r = tt
shown_dials n spot left (s ∷ ss) [] r = tt
shown_dials n spot left (s ∷ ss) (b ∷ bs) r = (r.0, shown_dials n (after_step n spot left s) (left_by n spot left s) ss bs r.1)

-- what a dial leaves at its number
abbrev Leaves : Handle → DialSpot → List DialItem → Type 0
Leaves made (Ahead k) left = ⊥
Leaves made Held left = made ≡ Dialing (Some left)
Leaves made Over left = Unit {0}

-- a dial with these items is as the first of them says
record DialSo (left : List DialItem) (us : List Use) (made : Handle) : Type 0 where
  kept : FirstMet (dial_meets left) us
  leaves : Leaves made (dial_leaves left) (drop 1 left)

told_back : (left : List DialItem) (later : Option (List DialItem)) (R : List DialItem → List DialItem → Type 0) → Told (Some left) later R → (js : List DialItem) × (later ≡ Some js) × R left js
told_back left (Some js) R t = (js, refl, t)
told_back left None R t = absurd t

dial_so : (n : ℕ) (login : Login) (plan : Option (List ReadItem)) (rules : Option (List WriteItem)) (its : Option (List DialItem)) (left : List DialItem) (o : Outcome) (us : List Use) (made : Handle) → its ≡ Some left → Dials login plan rules its n o us made
    → DialSo left us made
dial_so n login plan rules its left o us made e (Holds later a b c d) =
    let t = told_back left later (λ is js. is ≡ items.Wait ∷ js) (subst (λ (is : Option (List DialItem)). HeldBy is later) e d) in
    subst (λ (is : List DialItem). DialSo is us made) (sym t.2) (record { kept = subst (FirstMet (dial_meets (items.Wait ∷ t.0))) (sym b) refl; leaves = c ∙ ap Dialing t.1 })
dial_so n login plan rules its left o us made e (Fails later a b c d) =
    let t = told_back left later (λ is js. is ≡ items.Fail ∷ js) (subst (λ (is : Option (List DialItem)). FailedBy is later) e d) in
    subst (λ (is : List DialItem). DialSo is us made) (sym t.2) (record { kept = subst (FirstMet (dial_meets (items.Fail ∷ t.0))) (sym b) refl; leaves = tt })
dial_so n login plan rules its left o us made e (Links used x later a new given r) =
    let t = told_back left later (λ is js. (is ≡ []) × (js ≡ [])) (subst (λ (is : Option (List DialItem)). GivenBy is later) e given) in
    subst (λ (is : List DialItem). DialSo is us made) (sym t.2.0) (record { kept = subst (FirstMet (dial_meets [])) (sym a) refl; leaves = tt })

-- A run over a world that told the plans of these lines.
module _ (login : Login) (plans : Plans) (lines : List WorldLine) (told : ArePlansOf lines plans) (n : ℕ) where
  abbrev first : List DialItem
  first = all_given dials_of n lines

  -- where the lines so far are in the dials of the number, by the handles
  abbrev StandsAt : List Handle → DialSpot → List DialItem → Type 0
  StandsAt hs (Ahead k) left = (length hs + k ≡ n) × (left ≡ first)
  StandsAt hs Held left = (n < length hs) × (at_number hs n ≡ Dialing (Some left))
  StandsAt hs Over left = Unit {0}

  abbrev LineSo : DialSpot → List DialItem → Step → List Use → List Handle → Type 0
  LineSo spot left step us ts = LineDials n spot left step us × StandsAt ts (after_step n spot left step) (left_by n spot left step)

  dialed : (left : List DialItem) (us : List Use) (made : Handle) (ts : List Handle) → DialSo left us made → n < length ts → at_number ts n ≡ made → FirstMet (dial_meets left) us × StandsAt ts (dial_leaves left) (drop 1 left)
  dialed left us made ts d low is = (d.kept, by_spot (dial_leaves left) d.leaves)
    where
      by_spot : (spot : DialSpot) → Leaves made spot (drop 1 left) → StandsAt ts spot (drop 1 left)
      by_spot (Ahead k) l = absurd l
      by_spot Held l = (low, is ∙ l)
      by_spot Over l = tt

  -- another number is dialed, or this one
  conn_ahead : (there : Bool) (aim : Aim) (statement : Option StatementView) (k : ℕ) (left : List DialItem) (hs ts : List Handle) (o : Outcome) (us : List Use) → StandsAt hs (Ahead k) left → StepGrows login plans there aim statement hs steps.Conn o us ts → LineSo (Ahead k) left steps.Conn us ts
  conn_ahead there aim statement k left hs ts o us s r = by_test (k == 0) refl
    where
      grown : length ts ≡ length hs + 1
      grown = ap length r.others ∙ length-append hs (r.made ∷ [])

      by_test : (b : Bool) → (k == 0) ≡ b → DialKept b left us × StandsAt ts (spot_after n b (Ahead k) left steps.Conn) (items_after b left)
      by_test true e =
          let none : k ≡ 0 = grind (arith, nat_tests) in
          let sum : length hs + k ≡ n = s.0 in
          let here : length hs ≡ n = omega (arith, none, sum) in
          let d : DialSo left us r.made = dial_so (length hs) login (plans.reads (length hs)) (plans.writes (length hs)) (plans.dials (length hs)) left o us r.made (told.dials (length hs) ∙ ap (λ m. Some (all_given dials_of m lines)) here ∙ ap Some (sym s.1)) r.dials in
          dialed left us r.made ts d (omega (arith, grown, here)) (ap (at_number ts) (sym here) ∙ ap (λ (xs : List Handle). at_number xs (length hs)) r.others ∙ push_last hs r.made)
      by_test false e =
          let some : k ≢ 0 = λ z. grind (arith, nat_tests) in
          let sum : length hs + k ≡ n = s.0 in
          (tt, (omega (arith, grown, some, sum), s.1))

  ahead_so : (there : Bool) (aim : Aim) (statement : Option StatementView) (k : ℕ) (left : List DialItem) (hs ts : List Handle) (step : Step) (o : Outcome) (us : List Use) → StandsAt hs (Ahead k) left → StepGrows login plans there aim statement hs step o us ts → LineSo (Ahead k) left step us ts
  ahead_so there aim statement k left hs ts step o us s r = by_step step r (step_dials login plans there aim statement hs ts step o us r)
    where
      stays : length ts ≡ length hs + 0 → StandsAt ts (Ahead k) left
      stays e = let sum : length hs + k ≡ n = s.0 in (omega (arith, e, sum), s.1)

      by_step : (x : Step) → StepGrows login plans there aim statement hs x o us ts → length ts ≡ length hs + dialed_by x → LineSo (Ahead k) left x us ts
      by_step steps.Conn g e = conn_ahead there aim statement k left hs ts o us s g
      by_step (steps.Query m text) g e = (tt, stays e)
      by_step (steps.Prepare m text) g e = (tt, stays e)
      by_step (steps.Execute m number params) g e = (tt, stays e)
      by_step (steps.CloseStatement m number) g e = (tt, stays e)
      by_step (steps.Next m) g e = (tt, stays e)
      by_step (steps.Collect m) g e = (tt, stays e)
      by_step (steps.Drop m) g e = (tt, stays e)
      by_step (steps.Ping m) g e = (tt, stays e)
      by_step (steps.Reset m) g e = (tt, stays e)
      by_step (steps.User m change) g e = (tt, stays e)
      by_step (steps.Begin m opts) g e = (tt, stays e)
      by_step (steps.Commit m) g e = (tt, stays e)
      by_step (steps.Rollback m) g e = (tt, stays e)
      by_step (steps.ForgetTransaction m) g e = (tt, stays e)
      by_step (steps.Quit m) g e = (tt, stays e)
      by_step (steps.Stream m) g e = (tt, stays e)
      by_step (steps.Item m) g e = (tt, stays e)
      by_step (steps.Unstream m) g e = (tt, stays e)
      by_step (steps.Fields m) g e = (tt, stays e)
      by_step (steps.Poll m) g e = (tt, stays e)
      by_step (steps.Cancel m) g e = (tt, stays e)
      by_step (steps.Advance by) g e = (tt, stays e)
      by_step (steps.Random word) g e = (tt, stays e)

  -- the dial of the number is held
  module _ (left : List DialItem) (hs ts : List Handle) (o : Outcome) (us : List Use) (s : StandsAt hs Held left) where
    refused : (m : ℕ) (R : Handle → Outcome → List Use → Handle → Type 0) → ((made : Handle) → R (Dialing (Some left)) o us made → made ≡ Dialing (Some left)) → At m R hs o us ts → StandsAt ts Held left
    refused m R same r = by_number (same_or m n)
      where
        low : n < length ts
        low = let e = ap length r.others ∙ put_length m r.made hs in let under = s.0 in omega (arith, e, under)

        by_number : (m ≡ n) ⊎ (((m == n) ≡ false) × (m ≢ n)) → StandsAt ts Held left
        by_number (inl e) =
            let under : m < length hs = subst (λ z. z < length hs) (sym e) s.0 in
            let was : at_number hs m ≡ Dialing (Some left) = ap (at_number hs) e ∙ s.1 in
            (low, ap (at_number ts) (sym e) ∙ ap (λ (xs : List Handle). at_number xs m) r.others ∙ put_here m r.made hs under ∙ same r.made (subst (λ (h : Handle). R h o us r.made) was r.does))
        by_number (inr e) = (low, ap (λ (xs : List Handle). at_number xs n) r.others ∙ put_there m n r.made hs e.1 ∙ s.1)

    polled : (aim : Aim) (m : ℕ) → At m (GoesOn login plans aim m) hs o us ts → LineSo Held left (steps.Poll m) us ts
    polled aim m r = by_test (m == n) refl
      where
        low : n < length ts
        low = let e = ap length r.others ∙ put_length m r.made hs in let under = s.0 in omega (arith, e, under)

        by_test : (b : Bool) → (m == n) ≡ b → DialKept b left us × StandsAt ts (spot_after n b Held left (steps.Poll m)) (items_after b left)
        by_test true e =
            let is : m ≡ n = grind (arith, nat_tests) in
            let under : m < length hs = subst (λ z. z < length hs) (sym is) s.0 in
            let was : at_number hs m ≡ Dialing (Some left) = ap (at_number hs) is ∙ s.1 in
            let d : DialSo left us r.made = dial_so m login (plans.reads m) (plans.writes m) (Some left) left o us r.made refl (subst (λ (h : Handle). GoesOn login plans aim m h o us r.made) was r.does) in
            dialed left us r.made ts d low (ap (at_number ts) (sym is) ∙ ap (λ (xs : List Handle). at_number xs m) r.others ∙ put_here m r.made hs under)
        by_test false e =
            let other : m ≢ n = λ z. grind (arith, nat_tests) in
            (tt, (low, ap (λ (xs : List Handle). at_number xs n) r.others ∙ put_there m n r.made hs other ∙ s.1))

    cancelled : (m : ℕ) (R : Handle → Outcome → List Use → Handle → Type 0) → At m R hs o us ts → StandsAt ts (if m == n then Over else Held) left
    cancelled m R r = by_test (m == n) refl
      where
        by_test : (b : Bool) → (m == n) ≡ b → StandsAt ts (if b then Over else Held) left
        by_test true e = tt
        by_test false e =
            let other : m ≢ n = λ z. grind (arith, nat_tests) in
            let count = ap length r.others ∙ put_length m r.made hs in
            let under = s.0 in
            (omega (arith, count, under), ap (λ (xs : List Handle). at_number xs n) r.others ∙ put_there m n r.made hs other ∙ s.1)

    found_held : (there : Bool) (m : ℕ) (work : Work) → ((made : Handle) → WorkAt login plans m work (Dialing (Some left)) o us made → made ≡ Dialing (Some left)) → (made : Handle) → WorkAt login plans m (found_work there work) (Dialing (Some left)) o us made → made ≡ Dialing (Some left)
    found_held true m work does made r = does made r
    found_held false m work does made r = r.same

    executes_held : (q : Option StatementView) (params : Params) (m : ℕ) (made : Handle) → WorkAt login plans m (execute_work q params) (Dialing (Some left)) o us made → made ≡ Dialing (Some left)
    executes_held (Some prepared) params m made r = r.same
    executes_held None params m made r = r.same

    closes_held : (q : Option StatementView) (m : ℕ) (made : Handle) → WorkAt login plans m (close_work q) (Dialing (Some left)) o us made → made ≡ Dialing (Some left)
    closes_held (Some prepared) m made r = r.same
    closes_held None m made r = r.same

    unmoved : ts ≡ hs → StandsAt ts Held left
    unmoved e = subst (λ (xs : List Handle). StandsAt xs Held left) (sym e) s

    held_so : (there : Bool) (aim : Aim) (statement : Option StatementView) (step : Step) → StepGrows login plans there aim statement hs step o us ts → LineSo Held left step us ts
    held_so there aim statement steps.Conn r =
        let grown = ap length r.others ∙ length-append hs (r.made ∷ []) in
        let under = s.0 in
        (tt, (omega (arith, grown, under), ap (λ (xs : List Handle). at_number xs n) r.others ∙ push_before hs r.made n s.0 ∙ s.1))
    held_so there aim statement (steps.Query m text) r = (tt, refused m _ (λ made d. d.same) r)
    held_so there aim statement (steps.Prepare m text) r = (tt, refused m _ (λ made d. d.same) r)
    held_so there aim statement (steps.Execute m number params) r = (tt, refused m _ (executes_held statement params m) r)
    held_so there aim statement (steps.CloseStatement m number) r = (tt, refused m _ (closes_held statement m) r)
    held_so there aim statement (steps.Next m) r = (tt, refused m _ (λ made d. d.same) r)
    held_so there aim statement (steps.Collect m) r = (tt, refused m _ (λ made d. d.same) r)
    held_so there aim statement (steps.Drop m) r = (tt, refused m _ (λ made d. d.same) r)
    held_so there aim statement (steps.Ping m) r = (tt, refused m _ (λ made d. d.same) r)
    held_so there aim statement (steps.Reset m) r = (tt, refused m _ (λ made d. d.same) r)
    held_so there aim statement (steps.User m change) r = (tt, refused m _ (λ made d. d.same) r)
    held_so there aim statement (steps.Begin m opts) r = (tt, refused m _ (λ made d. d.same) r)
    held_so there aim statement (steps.Commit m) r = (tt, refused m _ (found_held there m (works.Begin calls.Commit) (λ made q. q.same)) r)
    held_so there aim statement (steps.Rollback m) r = (tt, refused m _ (found_held there m (works.Begin calls.Rollback) (λ made q. q.same)) r)
    held_so there aim statement (steps.ForgetTransaction m) r = (tt, refused m _ (found_held there m (works.Begin calls.ForgetTransaction) (λ made q. q.same)) r)
    held_so there aim statement (steps.Quit m) r = (tt, refused m _ (λ made d. d.same) r)
    held_so there aim statement (steps.Stream m) r = (tt, refused m _ (λ made d. d.same) r)
    held_so there aim statement (steps.Item m) r = (tt, refused m _ (found_held there m works.Item (λ made q. q.same)) r)
    held_so there aim statement (steps.Unstream m) r = (tt, refused m _ (found_held there m works.LetGo (λ made q. q.same)) r)
    held_so there aim statement (steps.Fields m) r = (tt, refused m _ (λ made d. d.same) r)
    held_so there aim statement (steps.Poll m) r = polled aim m r
    held_so there aim statement (steps.Cancel m) r = (tt, cancelled m _ r)
    held_so there aim statement (steps.Advance by) r = (tt, unmoved r.same)
    held_so there aim statement (steps.Random word) r = (tt, unmoved r.same)

  line_so : (there : Bool) (aim : Aim) (statement : Option StatementView) (spot : DialSpot) (left : List DialItem) (hs ts : List Handle) (step : Step) (o : Outcome) (us : List Use) → StandsAt hs spot left → StepGrows login plans there aim statement hs step o us ts → LineSo spot left step us ts
  line_so there aim statement (Ahead k) left hs ts step o us s r = ahead_so there aim statement k left hs ts step o us s r
  line_so there aim statement Held left hs ts step o us s r = held_so left hs ts o us s there aim statement step r
  line_so there aim statement Over left hs ts step o us s r = (tt, tt)

  -- after these lines
  record RanSo (ls : List Line) : Type 0 where
    spot : DialSpot
    left : List DialItem
    stands : StandsAt (handles_after ls) spot left
    reaches : (ss : List Step) (vs : List AnswerView) → DialsShown n spot left ss vs → DialsShown n (Ahead n) first (steps_of ls ++ ss) (answers_of ls ++ vs)

  ran : (ls : List Line) → AreGrown login plans ls → RanSo ls
  ran [] grown = record { spot = Ahead n; left = first; stands = (omega arith, refl); reaches = λ ss vs r. r }
  ran (l ∷ ls) grown =
      let before : RanSo ls = ran ls grown.1 in
      let line : LineSo before.spot before.left l.step l.uses l.handles = line_so _ _ _ before.spot before.left (handles_after ls) l.handles l.step l.outcome l.uses before.stands grown.0.answer in
      let view : AnswerView = record { number = l.number; outcome = l.outcome; uses = l.uses } in
      record {
        spot = after_step n before.spot before.left l.step;
        left = left_by n before.spot before.left l.step;
        stands = line.1;
        reaches = λ ss vs r.
            subst (λ (xs : List Step). DialsShown n (Ahead n) first xs ((answers_of ls ++ view ∷ []) ++ vs)) (sym (append_assoc (steps_of ls) (l.step ∷ []) ss))
            (subst (λ (ys : List AnswerView). DialsShown n (Ahead n) first (steps_of ls ++ l.step ∷ ss) ys) (sym (append_assoc (answers_of ls) (view ∷ []) vs))
            (before.reaches (l.step ∷ ss) (view ∷ vs) (line.0, r)));
      }

  pub each_dialed : (ls : List Line) → AreGrown login plans ls → (ss : List Step) (bs : List StepAnswer) → steps_of ls ≡ ss → map answer_view bs ≡ answers_of ls → DialsKept n (Ahead n) (all_given dials_of n lines) ss bs
  each_dialed ls grown ss bs e f =
      let all : RanSo ls = ran ls grown in
      shown_dials n (Ahead n) first ss bs
      (subst (λ (vs : List AnswerView). DialsShown n (Ahead n) first ss vs) (append-nil (answers_of ls) ∙ sym f)
      (subst (λ (xs : List Step). DialsShown n (Ahead n) first xs (answers_of ls ++ [])) (append-nil (steps_of ls) ∙ e) (all.reaches [] [] tt)))
