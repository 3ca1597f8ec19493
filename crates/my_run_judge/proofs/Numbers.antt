-- All numbers of a transcript, one after the other.
use Rattle.std.proofs.Common.{◌≡◌, ◌≤◌, ◌<◌, inl, inr, ℕ, ◌+◌, nat_lt, List, [], ◌∷◌, length, Bool, true, false, if◌then◌else◌, refl, sym, ap, ◌∙◌, subst, arith}
use Rattle.std.specs.Bool.{Decides}
use Rattle.std.proofs.lemmas.Bool.Decides.{nat_tests}
use Rattle.my_grammar.specs.declared.login.Login.{Login}
use Rattle.my_script.specs.declared.step.Step.{Step}
use Rattle.my_script.specs.declared.step.Step.TheVariants as steps
use Rattle.my_script.specs.declared.transcript.StepAnswer.{StepAnswer}
use Rattle.my_script.specs.declared.transcript.Tape.{Tape}
use Rattle.my_run_judge.specs.declared.judging.Found.{Found}
use Rattle.my_run_judge.specs.declared.judging.Found.TheVariants.{Right, Wrong}
use Rattle.my_run_judge.specs.Transcripts.{AreTapes, FoundAt, IsFoundBelow, IsFoundIn, IsLeastAt, IsNotBefore, IsOfANumber, IsWrongBelow, dialed_by, dialed_in, earlier, with_tapes}
use Rattle.my_run_judge.proofs.Doing.{not_right}

-- how many are dialed
pub dialed_one : (s : Step) → dialed_by s ≤ 1
dialed_one steps.Conn = omega arith
dialed_one (steps.Query n text) = omega arith
dialed_one (steps.Prepare n text) = omega arith
dialed_one (steps.Execute n number params) = omega arith
dialed_one (steps.CloseStatement n number) = omega arith
dialed_one (steps.Next n) = omega arith
dialed_one (steps.Collect n) = omega arith
dialed_one (steps.Drop n) = omega arith
dialed_one (steps.Ping n) = omega arith
dialed_one (steps.Reset n) = omega arith
dialed_one (steps.User n change) = omega arith
dialed_one (steps.Begin n opts) = omega arith
dialed_one (steps.Commit n) = omega arith
dialed_one (steps.Rollback n) = omega arith
dialed_one (steps.ForgetTransaction n) = omega arith
dialed_one (steps.Quit n) = omega arith
dialed_one (steps.Stream n) = omega arith
dialed_one (steps.Item n) = omega arith
dialed_one (steps.Unstream n) = omega arith
dialed_one (steps.Fields n) = omega arith
dialed_one (steps.Poll n) = omega arith
dialed_one (steps.Cancel n) = omega arith
dialed_one (steps.Advance by) = omega arith
dialed_one (steps.Random word) = omega arith

pub record DialedSo (all : List Step) (dialed : ℕ) (left : List Step) : Type 0 where
  pub sum : dialed + dialed_in left ≡ dialed_in all
  pub within : dialed + length left ≤ length all

pub dialed_first : (all : List Step) → DialedSo all 0 all
dialed_first all = record { sum = omega arith; within = omega arith }

pub dialed_more : (all : List Step) (dialed : ℕ) (left : List Step) (s : Step) (more : List Step) (n : ℕ) → left ≡ s ∷ more → n ≡ dialed_by s → DialedSo all dialed left → DialedSo all (dialed + n) more
dialed_more all dialed left s more n e is so =
    let one : dialed_by s ≤ 1 = dialed_one s in
    let count : length left ≡ length more + 1 = ap length e ∙ omega arith in
    let sum : dialed_in left ≡ dialed_by s + dialed_in more = ap dialed_in e in
    let all_is : dialed + dialed_in left ≡ dialed_in all = so.sum in
    let within : dialed + length left ≤ length all = so.within in
    record { sum = omega arith; within = omega arith }

pub dialed_all : (all : List Step) (dialed : ℕ) (left : List Step) → left ≡ [] → DialedSo all dialed left → dialed ≡ dialed_in all
dialed_all all dialed left e so = let none : dialed_in left ≡ 0 = ap dialed_in e in let sum = so.sum in omega arith

-- the tapes, one after the other
pub record NumberedSo (most : ℕ) (all : List Tape) (first : ℕ) (left : List Tape) : Type 0 where
  pub right : AreTapes first most left → AreTapes 0 most all
  pub each : AreTapes 0 most all → AreTapes first most left

pub numbered_first : (most : ℕ) (all : List Tape) → NumberedSo most all 0 all
numbered_first most all = record { right = λ r. r; each = λ r. r }

module _ (most : ℕ) (all : List Tape) (first : ℕ) (left : List Tape) (so : NumberedSo most all first left) where
  pub numbered_all : left ≡ [] → Decides true (AreTapes 0 most all)
  numbered_all e = (λ same. so.right (subst (λ ts. AreTapes first most ts) (sym e) tt), λ r. refl)

  module _ (t : Tape) (more : List Tape) (e : left ≡ t ∷ more) where
    pub numbered_wrong : ((first ≤ t.number) → (t.number < most) → (0 < length t.calls.items) → ⊥) → Decides false (AreTapes 0 most all)
    numbered_wrong never = (λ same. absurd cc, λ r. let w = subst (λ ts. AreTapes first most ts) e (so.each r) in absurd (never w.0 w.1 w.2))

    pub numbered_more : first ≤ t.number → t.number < most → 0 < length t.calls.items → NumberedSo most all (t.number + 1) more
    numbered_more low below some = record {
      right = λ r. so.right (subst (λ ts. AreTapes first most ts) (sym e) (low, below, some, r));
      each = λ r. (subst (λ ts. AreTapes first most ts) e (so.each r)).3;
    }

-- the earlier of two findings
pub not_before_itself : (x : Found) → IsNotBefore x x
not_before_itself Right = tt
not_before_itself (Wrong line) = omega arith

pub earlier_first : (one other x : Found) → IsNotBefore one x → IsNotBefore (earlier one other) x
earlier_first Right Right x r = r
earlier_first Right (Wrong second) Right r = tt
earlier_first Right (Wrong second) (Wrong line) r = absurd r
earlier_first (Wrong line) Right x r = r
earlier_first (Wrong line) (Wrong second) Right r = by_test (nat_lt second line)
  where
    by_test : (b : Bool) → IsNotBefore (if b then Wrong second else Wrong line) Right
    by_test true = tt
    by_test false = tt
earlier_first (Wrong line) (Wrong second) (Wrong k) r = by_test (nat_lt second line) refl
  where
    by_test : (b : Bool) → nat_lt second line ≡ b → IsNotBefore (if b then Wrong second else Wrong line) (Wrong k)
    by_test true e = let low : line ≤ k = r in grind (arith, nat_tests)
    by_test false e = r

pub earlier_second : (one other : Found) → IsNotBefore (earlier one other) other
earlier_second Right other = not_before_itself other
earlier_second (Wrong line) Right = tt
earlier_second (Wrong line) (Wrong second) = by_test (nat_lt second line) refl
  where
    by_test : (b : Bool) → nat_lt second line ≡ b → IsNotBefore (if b then Wrong second else Wrong line) (Wrong second)
    by_test true e = omega arith
    by_test false e = grind (arith, nat_tests)

-- what is found at each number, one after the other
module _ (At : ℕ → Found → Type 0) where
  pub below_none : IsFoundBelow At 0 Right
  below_none = record { least = λ n low. absurd (omega (arith, low)); somewhere = tt }

  wrong_wider : (line n : ℕ) → IsWrongBelow At line n → IsWrongBelow At line (n + 1)
  wrong_wider line n w = record { number = w.number; below = let b = w.below in omega arith; is = w.is }

  earlier_somewhere : (n : ℕ) (one other : Found) → IsOfANumber At n one → At n other → IsOfANumber At (n + 1) (earlier one other)
  earlier_somewhere n Right Right s f = tt
  earlier_somewhere n Right (Wrong line) s f = record { number = n; below = omega arith; is = f }
  earlier_somewhere n (Wrong line) Right s f = wrong_wider line n s
  earlier_somewhere n (Wrong line) (Wrong second) s f = by_test (nat_lt second line)
    where
      by_test : (b : Bool) → IsOfANumber At (n + 1) (if b then Wrong second else Wrong line)
      by_test true = record { number = n; below = omega arith; is = f }
      by_test false = wrong_wider line n s

  pub below_more : (n : ℕ) (least found new : Found) → new ≡ earlier least found → IsFoundBelow At n least → At n found → IsFoundBelow At (n + 1) new
  below_more n least found new e b f = subst (IsFoundBelow At (n + 1)) (sym e) (record {
    least = λ m low. by_number m (nat_lt m n) refl low;
    somewhere = earlier_somewhere n least found b.somewhere f;
  })
    where
      by_number : (m : ℕ) (c : Bool) → nat_lt m n ≡ c → m < n + 1 → IsLeastAt At (earlier least found) m
      by_number m true c low =
          let under : m < n = grind (arith, nat_tests) in
          let before : IsLeastAt At least m = b.least m under in
          record { found = before.found; is = before.is; not_before = earlier_first least found before.found before.not_before }
      by_number m false c low =
          let same : n ≡ m = grind (arith, nat_tests) in
          record { found = found; is = subst (λ z. At z found) same f; not_before = earlier_second least found }

  pub right_alone : (n : ℕ) → IsLeastAt At Right n → At n Right
  right_alone n l = by_found l.found l.is l.not_before
    where
      by_found : (x : Found) → At n x → IsNotBefore Right x → At n Right
      by_found Right f r = f
      by_found (Wrong line) f r = absurd r

pub found_in : (login : Login) (steps : List Step) (answers : List StepAnswer) (tapes : List Tape) (found : Found) (numbered : Bool) → IsFoundBelow (FoundAt login steps answers tapes) (dialed_in steps + 1) found → Decides numbered (AreTapes 0 (dialed_in steps) tapes)
    → IsFoundIn login steps answers tapes (with_tapes found numbered (length steps))
found_in login steps answers tapes Right true b d = record { numbered = d.0 refl; each = λ n low. right_alone (FoundAt login steps answers tapes) n (b.least n low) }
found_in login steps answers tapes Right false b d = record {
  wrong = inr (refl, not_right _ d);
  least = λ n low. record { found = Right; is = right_alone (FoundAt login steps answers tapes) n (b.least n low); not_before = tt };
}
found_in login steps answers tapes (Wrong line) numbered b d = record { wrong = inl b.somewhere; least = b.least }
