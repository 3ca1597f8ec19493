-- The lines of a plan, one after the other.
use Rattle.std.proofs.Common.{◌≡◌, ◌≤◌, ◌<◌, ◌^◌, ℕ, ◌+◌, ◌*◌, List, [], ◌∷◌, ◌++◌, length, Bool, true, false, ◌||◌, if◌then◌else◌, refl, sym, ap, ◌∙◌, subst, arith, append_assoc}
use Rattle.std.proofs.lemmas.List.{append-nil}
use Rattle.my_link.specs.declared.link.ReadItem.{ReadItem}
use Rattle.my_link.specs.declared.link.ReadItem.TheVariants.{Bytes, Turn, Wait, Fail, End}
use Rattle.my_link.specs.declared.link.WriteItem.{WriteItem}
use Rattle.my_link.specs.declared.link.WriteItem.TheVariants as puts
use Rattle.my_link.specs.Spent.{spelled, fails_in, write_fails_in}
use Rattle.my_link.specs.declared.line.WorldLine.{WorldLine}
use Rattle.my_link.specs.Plan.{all_given, dripped, given_to, items_of, writes_of}
use Rattle.my_run_judge.specs.Plan.Planned.{PlanSeen, before_end, has_end, no_plan, plan_on, plan_with, planned, with_bytes}

-- each byte by itself
pub dripped_spells : (bs : List ℕ) → spelled (before_end (dripped bs)) ≡ bs
dripped_spells [] = refl
dripped_spells (b ∷ bs) = ap (λ (xs : List ℕ). b ∷ xs) (dripped_spells bs)

pub dripped_fails : (bs : List ℕ) → fails_in (before_end (dripped bs)) ≡ 0
dripped_fails [] = refl
dripped_fails (b ∷ bs) = dripped_fails bs

pub dripped_open : (bs : List ℕ) → has_end (dripped bs) ≡ false
dripped_open [] = refl
dripped_open (b ∷ bs) = dripped_open bs

-- items, and more items
joined_writes : (ws vs : List WriteItem) → write_fails_in (ws ++ vs) ≡ write_fails_in ws + write_fails_in vs
joined_writes [] vs = omega arith
joined_writes (puts.Accept n ∷ ws) vs = joined_writes ws vs
joined_writes (puts.Wait ∷ ws) vs = joined_writes ws vs
joined_writes (puts.Fail ∷ ws) vs = let more = joined_writes ws vs in omega (arith, more)

-- of a link that has these items first
record Joined (is js : List ReadItem) : Type 0 where
  spells : spelled (before_end (is ++ js)) ≡ (if has_end is then spelled (before_end is) else spelled (before_end is) ++ spelled (before_end js))
  fails : fails_in (before_end (is ++ js)) ≡ (if has_end is then fails_in (before_end is) else fails_in (before_end is) + fails_in (before_end js))
  ends : has_end (is ++ js) ≡ (if has_end is then true else has_end js)

joined : (is js : List ReadItem) → Joined is js
joined [] js = record { spells = refl; fails = omega arith; ends = refl }
joined (Bytes bytes ∷ is) js = let more = joined is js in record { spells = ap (λ (xs : List ℕ). bytes ++ xs) more.spells ∙ by_end (has_end is); fails = more.fails; ends = more.ends }
  where
    by_end : (e : Bool) → bytes ++ (if e then spelled (before_end is) else spelled (before_end is) ++ spelled (before_end js)) ≡ (if e then bytes ++ spelled (before_end is) else (bytes ++ spelled (before_end is)) ++ spelled (before_end js))
    by_end true = refl
    by_end false = sym (append_assoc bytes (spelled (before_end is)) (spelled (before_end js)))
joined (Turn ∷ is) js = let more = joined is js in record { spells = more.spells; fails = more.fails; ends = more.ends }
joined (Wait ∷ is) js = let more = joined is js in record { spells = more.spells; fails = more.fails; ends = more.ends }
joined (Fail ∷ is) js = let more = joined is js in record { spells = more.spells; fails = ap (λ n. 1 + n) more.fails ∙ by_end (has_end is); ends = more.ends }
  where
    by_end : (e : Bool) → 1 + (if e then fails_in (before_end is) else fails_in (before_end is) + fails_in (before_end js)) ≡ (if e then 1 + fails_in (before_end is) else (1 + fails_in (before_end is)) + fails_in (before_end js))
    by_end true = refl
    by_end false = omega arith
joined (End ∷ is) js = record { spells = refl; fails = refl; ends = refl }

bytes_more : (d e : Bool) (b s t u : List ℕ) → u ≡ (if e then s else s ++ t) → (if d || e then (if d then b else b ++ s) else (if d then b else b ++ s) ++ t) ≡ (if d then b else b ++ u)
bytes_more true e b s t u h = refl
bytes_more false true b s t u h = ap (λ (xs : List ℕ). b ++ xs) (sym h)
bytes_more false false b s t u h = append_assoc b s t ∙ ap (λ (xs : List ℕ). b ++ xs) (sym h)

faults_more : (d e : Bool) (p f g h w v x : ℕ) → h ≡ (if e then f else f + g) → x ≡ w + v
    → (if d || e then (if d then p else p + f) + w else ((if d then p else p + f) + w) + g) + v ≡ (if d then p else p + h) + x
faults_more true e p f g h w v x i j = omega (arith, j)
faults_more false true p f g h w v x i j = omega (arith, i, j)
faults_more false false p f g h w v x i j = omega (arith, i, j)

ends_more : (d e h x : Bool) → x ≡ (if e then true else h) → (d || e) || h ≡ d || x
ends_more true e h x i = refl
ends_more false true h x i = sym i
ends_more false false h x i = sym i

plan_is : (bs cs : List ℕ) (f g : ℕ) (d e : Bool) → bs ≡ cs → f ≡ g → d ≡ e → (let p : PlanSeen = record { bytes = bs; faults = f; ends = d } in p) ≡ (let q : PlanSeen = record { bytes = cs; faults = g; ends = e } in q)
plan_is bs cs f g d e i j k = cc

-- the same
pub on_more : (p : PlanSeen) (is js : List ReadItem) (ws vs : List WriteItem) → plan_on (plan_on p is ws) js vs ≡ plan_on p (is ++ js) (ws ++ vs)
on_more p is js ws vs =
    let j = joined is js in
    plan_is _ _ _ _ _ _
    (bytes_more p.ends (has_end is) p.bytes (spelled (before_end is)) (spelled (before_end js)) _ j.spells)
    (faults_more p.ends (has_end is) p.faults (fails_in (before_end is)) (fails_in (before_end js)) _ (write_fails_in ws) (write_fails_in vs) _ j.fails (joined_writes ws vs))
    (ends_more p.ends (has_end is) (has_end js) _ j.ends)

-- what a packet gives, whole or byte by byte
pub read_whole : (p : PlanSeen) (bs : List ℕ) → p.ends ≡ false → with_bytes p bs ≡ plan_on p (Bytes bs ∷ []) []
read_whole p bs e = rw e (plan_is _ _ _ _ _ _ (ap (λ (xs : List ℕ). p.bytes ++ xs) (sym (append-nil bs))) (omega arith) refl)

pub read_dripped : (p : PlanSeen) (bs : List ℕ) → p.ends ≡ false → with_bytes p bs ≡ plan_on p (dripped bs) []
read_dripped p bs e = rw e (plan_is _ _ _ _ _ _ (ap (λ (xs : List ℕ). p.bytes ++ xs) (sym (dripped_spells bs))) (let none = dripped_fails bs in omega (arith, none)) (sym (dripped_open bs)))

-- so far, with the lines that are left
pub record PlannedSo (n : ℕ) (lines : List WorldLine) (p : PlanSeen) (left : List WorldLine) : Type 0 where
  pub rest : plan_on p (all_given items_of n left) (all_given writes_of n left) ≡ planned n lines
  pub within : p.faults + 2 * length left ≤ 2 * length lines

pub planned_first : (n : ℕ) (lines : List WorldLine) → PlannedSo n lines no_plan lines
planned_first n lines = record { rest = plan_is _ _ _ _ _ _ refl (omega arith) refl; within = omega arith }

module _ (n : ℕ) (lines : List WorldLine) (p : PlanSeen) (left : List WorldLine) (so : PlannedSo n lines p left) where
  pub planned_more : (line : WorldLine) (later : List WorldLine) (q : PlanSeen) → left ≡ line ∷ later → q ≡ plan_with n p line → q.faults ≤ p.faults + 2 → PlannedSo n lines q later
  planned_more line later q e f low =
      let count : length left ≡ length later + 1 = ap length e ∙ omega arith in
      let within : p.faults + 2 * length left ≤ 2 * length lines = so.within in
      record {
        rest = ap (λ (z : PlanSeen). plan_on z (all_given items_of n later) (all_given writes_of n later)) f
            ∙ on_more p (given_to items_of n line) (all_given items_of n later) (given_to writes_of n line) (all_given writes_of n later)
            ∙ subst (λ (ls : List WorldLine). plan_on p (all_given items_of n ls) (all_given writes_of n ls) ≡ planned n lines) e so.rest;
        within = omega (arith, within, count, low);
      }

  pub planned_room : (line : WorldLine) (later : List WorldLine) → left ≡ line ∷ later → length lines < 2 ^ 63 → p.faults + 2 < 2 ^ 64
  planned_room line later e low =
      let count : length left ≡ length later + 1 = ap length e ∙ omega arith in
      let within : p.faults + 2 * length left ≤ 2 * length lines = so.within in
      omega (arith, within, count, low)

  pub planned_all : left ≡ [] → p ≡ planned n lines
  planned_all e = plan_is _ _ _ _ _ _ (by_end p.ends) (by_faults p.ends) (by_ends p.ends) ∙ subst (λ (ls : List WorldLine). plan_on p (all_given items_of n ls) (all_given writes_of n ls) ≡ planned n lines) e so.rest
    where
      by_end : (d : Bool) → p.bytes ≡ (if d then p.bytes else p.bytes ++ [])
      by_end true = refl
      by_end false = sym (append-nil p.bytes)

      by_faults : (d : Bool) → p.faults ≡ (if d then p.faults else p.faults + 0) + 0
      by_faults true = omega arith
      by_faults false = omega arith

      by_ends : (d : Bool) → d ≡ d || false
      by_ends true = refl
      by_ends false = refl
