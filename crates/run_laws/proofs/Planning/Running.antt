-- All lines of a run, at the link of one number.
use Rattle.std.proofs.Common.{◌≡◌, ◌≢◌, ◌⊎◌, ◌≤◌, ◌<◌, inl, inr, ℕ, zero, suc, ◌+◌, ◌==◌, List, [], ◌∷◌, ◌++◌, length, map, nat_lt, Bool, true, false, Option, Some, refl, sym, ap, ◌∙◌, subst, arith, length-append, if◌then◌else◌}
use Rattle.std.proofs.lemmas.Bool.Decides.{nat_tests}
use Rattle.std.proofs.lemmas.List.{append_assoc}
use Rattle.my_grammar.specs.declared.login.Login.{Login}
use Rattle.my_link.specs.declared.link.ReadItem.{ReadItem}
use Rattle.my_link.specs.declared.link.WriteItem.{WriteItem}
use Rattle.my_link.specs.Looks.{Looks}
use Rattle.my_link.specs.declared.dialer.DialItem.{DialItem}
use Rattle.my_link.specs.declared.met.Met.{Met}
use Rattle.my_link.specs.Met.{nothing_met}
use Rattle.my_link.specs.Spent.{spelled}
use Rattle.my_script.specs.declared.action.Action.{Action}
use Rattle.my_script.specs.declared.action.Action.TheVariants as actions
use Rattle.my_script.specs.Actions.{action_of}
use Rattle.my_script.specs.Numbered.{named_statement, statement_named}
use Rattle.my_script.specs.Streams.{target}
use Rattle.my_script.specs.declared.transcript.Outcome.{Outcome}
use Rattle.my_script.specs.declared.transcript.StepAnswer.{StepAnswer}
use Rattle.my_script.specs.declared.transcript.Use.{Use}
use Rattle.my_link.specs.World.{Plans}
use Rattle.my_steps.specs.Grows.{At, AreGrown, DialsNext, Line, Moves, handles_after, ActionGrows, WorkAt, aim_at, is_found, statements_of}
use Rattle.my_steps.specs.Handle.{Handle, Absent, Dialing, Joined, at_number, put_at}
use Rattle.my_steps.specs.Sums.{held_use, quiet, use_of}
use Rattle.my_run.specs.Headline.{AnswerView, answer_view, answers_of}
use Rattle.run_laws.proofs.Judging.Running.{less_or, past, push_before, push_last, put_here, put_length, put_there, same_or}
use Rattle.my_run_judge.specs.declared.plan.left.Left.{Left}
use Rattle.my_run_judge.specs.Plan.Left.{AreKept, IsKept, after_met, after_use, after_uses}
use Rattle.my_run_judge.specs.Plan.Lines.{LinesKept}
use Rattle.my_run_judge.specs.Plan.Planned.{before_end}
use Rattle.run_laws.proofs.Planning.Spending.{left_at, left_is}
use Rattle.run_laws.proofs.Planning.Stepping.{Dials, DialsTo, Goes, HasFailed, HasLinked, HeldTo, IsHeld, IsLeft, Stays, WalksTo, dials_go, work_go}
use Rattle.run_laws.proofs.Planning.Walking.{NoneAt, StandsIn, WalkKept, none_kept, walk_kept, walks_elsewhere, walks_longer}

-- the lines, by what is shown of their answers
abbrev pub AreShown : ℕ → Left → List AnswerView → Type 0
AreShown n left [] = left.others ≡ 0
AreShown n left (v ∷ vs) = AreKept n left v.uses × AreShown n (after_uses n left v.uses) vs

pub shown_lines : (n : ℕ) (left : Left) (bs : List StepAnswer) → AreShown n left (map answer_view bs) → LinesKept n left bs
shown_lines n left [] r = r
shown_lines n left (b ∷ bs) r = (r.0, shown_lines n (after_uses n left b.uses.items) bs r.1)

-- the uses of a step at another number
dials_elsewhere : (m n : ℕ) (is : List ReadItem) (ws : List WriteItem) (us : List Use) (t : Handle) → m ≢ n → DialsTo m is ws us t → NoneAt n us
dials_elsewhere m n is ws us t other (IsHeld left e f) = subst (NoneAt n) (sym e) (other, tt)
dials_elsewhere m n is ws us t other (HasFailed e f) = subst (NoneAt n) (sym e) (other, tt)
dials_elsewhere m n is ws us t other (HasLinked d) = subst (NoneAt n) (sym d.uses) (other, walks_elsewhere m n (d.used ∷ []) d.link [] d.walks.link d.walks.kept.taken other d.walks.walks)

held_elsewhere : (m n : ℕ) (is : List ReadItem) (ws : List WriteItem) (us : List Use) (t : Handle) → m ≢ n → HeldTo m is ws us t → NoneAt n us
held_elsewhere m n is ws us t other (Stays left e f) = subst (NoneAt n) (sym e) tt
held_elsewhere m n is ws us t other (IsLeft e f) = subst (NoneAt n) (sym e) tt
held_elsewhere m n is ws us t other (Dials d) = dials_elsewhere m n is ws us t other d

goes_elsewhere : (m n : ℕ) (is : List ReadItem) (ws : List WriteItem) (h : Handle) (us : List Use) (t : Handle) → m ≢ n → Goes m is ws h us t → NoneAt n us
goes_elsewhere m n is ws Absent us t other g = subst (NoneAt n) (sym g.0) tt
goes_elsewhere m n is ws (Dialing left) us t other g = held_elsewhere m n is ws us t other g
goes_elsewhere m n is ws (Joined there k x) us t other g = walks_elsewhere m n us x k.taken g.link g.kept.taken other g.walks

-- the plan of a link is told, and its tape has this many bytes
module _ (n : ℕ) (is : List ReadItem) (ws : List WriteItem) (all : ℕ) where
  abbrev plan : List ℕ
  plan = spelled (before_end is)

  abbrev pub first : Left
  first = left_at all 0 is ws

  -- what is at the number, and what is left of the plan
  abbrev pub Stands : Handle → Left → Type 0
  Stands Absent left = left ≡ first
  Stands (Dialing items) left = left ≡ first
  Stands (Joined there k x) left = StandsIn plan all x k.taken left

  -- the number may still have the tape: no more bytes were taken than that has, and no dial failed
  abbrev pub HasRoom : Handle → Type 0
  HasRoom Absent = ⊥
  HasRoom (Dialing items) = Unit {0}
  HasRoom (Joined there k x) = length k.taken ≤ all

  -- the uses of a line are planned at this number
  abbrev pub KeptSo : List Use → Handle → Handle → Type 0
  KeptSo us h t = (left : Left) → Stands h left → AreKept n left us × Stands t (after_uses n left us)

  pub skips : (us : List Use) (h t : Handle) → t ≡ h → NoneAt n us → KeptSo us h t
  skips us h t e none left s = let r = none_kept n left us none in (r.0, subst (Stands t) (sym r.1) (subst (λ (z : Handle). Stands z left) (sym e) s))

  walks : (us : List Use) (x : Looks) (taken : List ℕ) (t : Handle) → WalksTo n us x taken t → HasRoom t → (length taken ≤ all) × ((left : Left) → StandsIn plan all x taken left → AreKept n left us × Stands t (after_uses n left us))
  walks us x taken t w room =
      let low : length w.kept.taken ≤ all = subst HasRoom w.is room in
      let longer = walks_longer n us x taken w.link w.kept.taken w.walks in (
        omega (arith, low, longer),
        λ left s. let k : WalkKept n plan all us left w.link w.kept.taken = walk_kept n plan all us x taken left w.link w.kept.taken w.walks low s in
            (k.kept, subst (λ (z : Handle). Stands z (after_uses n left us)) (sym w.is) k.stands),
      )

  -- a use that takes no byte and meets no fault and no end
  still_kept : (m : Met) → m.faults ≡ 0 → m.taken ≡ 0 → m.ends ≡ 0 → (l : Left) → l ≡ first → IsKept n l (use_of n m) × (after_use n l (use_of n m) ≡ first)
  still_kept m a b c l f = (
    inr (record { faults = omega (arith, a); bytes = omega (arith, b); end = inl c }),
    ap (λ (x : Bool). if x then after_met l m else l) here ∙ ap (λ (z : Left). after_met z m) f
        ∙ left_is _ _ _ _ _ _ _ _ (omega (arith, a)) (omega (arith, b)) (omega (arith, b)) refl,
  )
    where
      here : (n == n) ≡ true
      here = grind (arith, nat_tests)

  pub dials : (us : List Use) (t : Handle) → DialsTo n is ws us t → HasRoom t → (left : Left) → left ≡ first → AreKept n left us × Stands t (after_uses n left us)
  dials us t (IsHeld items e f) room left s =
      let still = still_kept (record nothing_met { holds = 1 }) refl refl refl left s in
      subst (λ (vs : List Use). AreKept n left vs × Stands t (after_uses n left vs)) (sym e) ((still.0, tt), subst (λ (z : Handle). Stands z (after_use n left (held_use n))) (sym f) still.1)
  dials us t (HasFailed e f) room left s = absurd (subst HasRoom f room)
  dials us t (HasLinked d) room left s = subst (λ (vs : List Use). AreKept n left vs × Stands t (after_uses n left vs)) (sym d.uses)
      (let still = still_kept nothing_met refl refl refl left s in
      let w = (walks (d.used ∷ []) d.link [] t d.walks room).1 (after_use n left (quiet n)) (record {
        reads = is;
        puts = ws;
        has = d.has;
        bytes = refl;
        left_is = still.1;
      }) in ((still.0, w.0), w.1))

  held : (items : Option (List DialItem)) (us : List Use) (t : Handle) → HeldTo n is ws us t → HasRoom t → KeptSo us (Dialing items) t
  held items us t (Stays later e f) room left s = subst (λ (vs : List Use). AreKept n left vs × Stands t (after_uses n left vs)) (sym e) (tt, subst (λ (z : Handle). Stands z left) (sym f) s)
  held items us t (IsLeft e f) room left s = absurd (subst HasRoom f room)
  held items us t (Dials d) room left s = dials us t d room left s

  -- and there was room before
  pub goes : (h : Handle) (us : List Use) (t : Handle) → Goes n is ws h us t → HasRoom t → HasRoom h × KeptSo us h t
  goes Absent us t g room = absurd (subst HasRoom g.1 room)
  goes (Dialing items) us t g room = (tt, held items us t g room)
  goes (Joined there k x) us t g room = walks us x k.taken t g room

-- A run over a world that told the plans of all links.
module _ (login : Login) (plans : Plans) (reads_of : ℕ → List ReadItem) (writes_of : ℕ → List WriteItem) (reads_are : (i : ℕ) → plans.reads i ≡ Some (reads_of i)) (writes_are : (i : ℕ) → plans.writes i ≡ Some (writes_of i)) where
  module _ (n all : ℕ) where
    -- there is room, where the number was dialed
    abbrev pub NumberRoom : List Handle → Type 0
    NumberRoom hs = n < length hs → HasRoom n (reads_of n) (writes_of n) all (at_number hs n)

    abbrev pub KeptAt : List Use → List Handle → List Handle → Type 0
    KeptAt us hs ts = KeptSo n (reads_of n) (writes_of n) all us (at_number hs n) (at_number ts n)

    -- a line is planned at this number
    pub record NumberSo (us : List Use) (hs ts : List Handle) : Type 0 where
      pub back : NumberRoom hs
      pub kept : KeptAt us hs ts

    skips_so : (us : List Use) (hs ts : List Handle) → length hs ≤ length ts → at_number ts n ≡ at_number hs n → NoneAt n us → NumberRoom ts → NumberSo us hs ts
    skips_so us hs ts grown same none room = record {
      back = λ low. subst (HasRoom n (reads_of n) (writes_of n) all) same (room (omega (arith, low, grown)));
      kept = skips n (reads_of n) (writes_of n) all us (at_number hs n) (at_number ts n) same none;
    }

    -- a step that names a number
    named : (m : ℕ) (R : Handle → Outcome → List Use → Handle → Type 0) (hs : List Handle) (o : Outcome) (us : List Use) (ts : List Handle) → ((h t : Handle) → R h o us t → Goes m (reads_of m) (writes_of m) h us t)
        → At m R hs o us ts → NumberRoom ts → NumberSo us hs ts
    named m R hs o us ts go r room = by_number (same_or m n) (less_or m (length hs))
      where
        g : Goes m (reads_of m) (writes_of m) (at_number hs m) us r.made
        g = go (at_number hs m) r.made r.does

        same_length : length ts ≡ length hs
        same_length = ap length r.others ∙ put_length m r.made hs

        put_past : (i : ℕ) (t : Handle) (xs : List Handle) → length xs ≤ i → put_at i t xs ≡ xs
        put_past i t [] w = refl
        put_past zero t (x ∷ xs) w = absurd (omega (arith, w))
        put_past (suc i) t (x ∷ xs) w = ap (λ (ys : List Handle). x ∷ ys) (put_past i t xs (omega (arith, w)))

        by_number : (m ≡ n) ⊎ (((m == n) ≡ false) × (m ≢ n)) → ((nat_lt m (length hs) ≡ true) × (m < length hs)) ⊎ ((nat_lt m (length hs) ≡ false) × (length hs ≤ m)) → NumberSo us hs ts
        by_number (inr e) low = skips_so us hs ts (omega (arith, same_length)) (ap (λ (xs : List Handle). at_number xs n) r.others ∙ put_there m n r.made hs e.1)
            (goes_elsewhere m n (reads_of m) (writes_of m) (at_number hs m) us r.made e.1 g) room
        by_number (inl e) (inl low) =
            let made : at_number ts n ≡ r.made = ap (at_number ts) (sym e) ∙ ap (λ (xs : List Handle). at_number xs m) r.others ∙ put_here m r.made hs low.1 in
            let here : Goes n (reads_of n) (writes_of n) (at_number hs n) us (at_number ts n) =
            subst (λ (t : Handle). Goes n (reads_of n) (writes_of n) (at_number hs n) us t) (sym made) (subst (λ z. Goes z (reads_of z) (writes_of z) (at_number hs z) us r.made) e g) in
            let under = low.1 in
            let l = goes n (reads_of n) (writes_of n) all (at_number hs n) us (at_number ts n) here (room (omega (arith, under, same_length, e))) in
            record { back = λ _. l.0; kept = l.1 }
        by_number (inl e) (inr high) =
            let same : ts ≡ hs = r.others ∙ put_past m r.made hs high.1 in
            let there : Goes m (reads_of m) (writes_of m) Absent us r.made = subst (λ (h : Handle). Goes m (reads_of m) (writes_of m) h us r.made) (past hs m high.1) g in
            skips_so us hs ts (omega (arith, same_length)) (ap (λ (xs : List Handle). at_number xs n) same) (subst (NoneAt n) (sym there.0) tt) room

    -- a step that dials
    conn : (hs : List Handle) (o : Outcome) (us : List Use) (ts : List Handle) → DialsNext login plans hs o us ts → NumberRoom ts → NumberSo us hs ts
    conn hs o us ts r room = by_number (same_or (length hs) n) (less_or n (length hs))
      where
        d : DialsTo (length hs) (reads_of (length hs)) (writes_of (length hs)) us r.made
        d = dials_go (length hs) (reads_of (length hs)) (writes_of (length hs)) login (plans.reads (length hs)) (plans.writes (length hs)) (plans.dials (length hs)) o us r.made (reads_are (length hs)) (writes_are (length hs)) r.dials

        grown : length ts ≡ length hs + 1
        grown = ap length r.others ∙ length-append hs (r.made ∷ [])

        elsewhere : length hs ≢ n → NoneAt n us
        elsewhere other = dials_elsewhere (length hs) n (reads_of (length hs)) (writes_of (length hs)) us r.made other d

        by_number : (length hs ≡ n) ⊎ (((length hs == n) ≡ false) × (length hs ≢ n)) → ((nat_lt n (length hs) ≡ true) × (n < length hs)) ⊎ ((nat_lt n (length hs) ≡ false) × (length hs ≤ n)) → NumberSo us hs ts
        by_number (inl e) low =
            let made : at_number ts n ≡ r.made = ap (at_number ts) (sym e) ∙ ap (λ (xs : List Handle). at_number xs (length hs)) r.others ∙ push_last hs r.made in
            let was : at_number hs n ≡ Absent = past hs n (omega (arith, e)) in
            let here : DialsTo n (reads_of n) (writes_of n) us (at_number ts n) = subst (λ (t : Handle). DialsTo n (reads_of n) (writes_of n) us t) (sym made) (subst (λ z. DialsTo z (reads_of z) (writes_of z) us r.made) e d) in
            let lower : n < length ts = omega (arith, e, grown) in
            record {
              back = λ under. absurd (omega (arith, under, e));
              kept = subst (λ (h : Handle). KeptSo n (reads_of n) (writes_of n) all us h (at_number ts n)) (sym was) (dials n (reads_of n) (writes_of n) all us (at_number ts n) here (room lower));
            }
        by_number (inr e) (inl low) = skips_so us hs ts (omega (arith, grown)) (ap (λ (xs : List Handle). at_number xs n) r.others ∙ push_before hs r.made n low.1) (elsewhere e.1) room
        by_number (inr e) (inr high) =
            let over : length hs ≤ n = high.1 in
            let other = e.1 in
            let above : length ts ≤ n = omega (arith, grown, over, other) in
            skips_so us hs ts (omega (arith, grown)) (past ts n above ∙ sym (past hs n over)) (elsewhere e.1) room

    -- a step that moves the world
    moved : (hs ts : List Handle) (o : Outcome) (us : List Use) → Moves hs o us ts → NumberRoom ts → NumberSo us hs ts
    moved hs ts o us r = let count = ap length r.same in skips_so us hs ts (omega (arith, count)) (ap (λ (xs : List Handle). at_number xs n) r.same) (subst (NoneAt n) (sym r.uses) tt)

    line_so : (action : Action) (hs ts : List Handle) (o : Outcome) (us : List Use) → ActionGrows login plans action hs o us ts → NumberRoom ts → NumberSo us hs ts
    line_so actions.Dial hs ts o us r = conn hs o us ts r
    line_so (actions.Move line) hs ts o us r = moved hs ts o us r
    line_so (actions.Visit m work) hs ts o us r = named m (WorkAt login plans m work) hs o us ts (λ h t. work_go m (reads_of m) (writes_of m) login plans work (reads_are m) (writes_are m) o us h t) r

    -- after these lines
    pub record RanSo (ls : List Line) : Type 0 where
      pub left : Left
      pub stands : Stands n (reads_of n) (writes_of n) all (at_number (handles_after ls) n) left
      pub reaches : (vs : List AnswerView) → AreShown n left vs → AreShown n (first n (reads_of n) (writes_of n) all) (answers_of ls ++ vs)

    pub ran : (ls : List Line) → AreGrown login plans ls → NumberRoom (handles_after ls) → RanSo ls
    ran [] grown room = record { left = first n (reads_of n) (writes_of n) all; stands = refl; reaches = λ vs r. r }
    ran (l ∷ ls) grown room =
        let s : NumberSo l.uses (handles_after ls) l.handles = line_so (action_of (is_found (target l.step) l.step ls) (aim_at (target l.step) ls) (statement_named (named_statement l.step) (statements_of ls)) l.step) (handles_after ls) l.handles l.outcome l.uses grown.0.answer room in
        let before : RanSo ls = ran ls grown.1 s.back in
        let here = s.kept before.left before.stands in
        let view : AnswerView = record { number = l.number; outcome = l.outcome; uses = l.uses } in
        record {
          left = after_uses n before.left l.uses;
          stands = here.1;
          reaches = λ vs r. subst (λ (ys : List AnswerView). AreShown n (first n (reads_of n) (writes_of n) all) ys) (sym (append_assoc (answers_of ls) (view ∷ []) vs)) (before.reaches (view ∷ vs) (here.0, r));
        }
