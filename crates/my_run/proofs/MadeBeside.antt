-- What stands beside the connections of a run is what its lines make of it.
use Rattle.std.proofs.Common.{ℕ, ◌≡◌, ◌==◌, ◌<◌, nat_lt, nat_cmp, is_eq, Less, Equal, Greater, cond, List, Option, Some, None, Bool, true, false, unwrap_or, if◌then◌else◌, sym, ap, ◌∙◌, refl, arith}
use Rattle.std.proofs.lemmas.Bool.Decides.{nat_tests}
use Rattle.std.specs.BTreeMap.{Updates, get}
use Rattle.my_script.specs.declared.step.Step.{Step}
use Rattle.my_script.specs.declared.beside.Beside.{Beside}
use Rattle.my_script.specs.declared.transcript.Outcome.{Outcome}
use Rattle.my_script.specs.Beside.{beside_after, beside_by, beside_named, finds, nothing_beside}
use Rattle.my_script.specs.Streams.{target}
use Rattle.my_steps.specs.Grows.{Line, aim_at, is_found, beside_of}
use Rattle.my_run.specs.declared.beside.BesideEach.{BesideEach}
use Rattle.my_run.specs.Beside.{aim_in, beside_in, is_found_in}

same_at : (x y : ℕ) → is_eq (nat_cmp x y) ≡ (x == y)
same_at x y = by_tests (nat_lt x y) (x == y) refl refl
  where
    by_tests : (b c : Bool) → nat_lt x y ≡ b → (x == y) ≡ c → is_eq (cond b Less (cond c Equal Greater)) ≡ c
    by_tests true true e f =
        let low : x < y = grind (arith, nat_tests) in
        let same : x ≡ y = grind (arith, nat_tests) in
        absurd (omega (arith, low, same))
    by_tests true false e f = refl
    by_tests false true e f = refl
    by_tests false false e f = refl

-- what a step came to is noted at its number
pub noted : (old new : BesideEach) (m : ℕ) (v : Beside) (step : Step) (o : Outcome) → Updates nat_cmp old.made new.made m (Some v) → target step ≡ Some m → v ≡ beside_after (beside_in old m) step o
    → (n : ℕ) → beside_in new n ≡ beside_by n (beside_in old n) step o
noted old new m v step o u named is n =
    ap (λ (q : Option Beside). unwrap_or q nothing_beside) (u.0 n)
    ∙ ap (λ b. unwrap_or (cond b (Some v) (get nat_cmp old.made n)) nothing_beside) (same_at m n)
    ∙ by_same (m == n) refl
    ∙ sym (ap (λ q. beside_named n q (beside_in old n) step o) named)
  where
    by_same : (b : Bool) → (m == n) ≡ b → unwrap_or (cond b (Some v) (get nat_cmp old.made n)) nothing_beside ≡ (if b then beside_after (beside_in old n) step o else beside_in old n)
    by_same true e = let same : m ≡ n = grind (arith, nat_tests) in is ∙ ap (λ k. beside_after (beside_in old k) step o) same
    by_same false e = refl

-- whether a step finds what it needs
pub found_same : (b : BesideEach) (ls : List Line) (q : Option ℕ) (step : Step) → ((n : ℕ) → beside_in b n ≡ beside_of n ls) → is_found_in b q step ≡ is_found q step ls
found_same b ls None step f = refl
found_same b ls (Some n) step f = ap (λ x. finds x step) (f n)

-- and the aim of what is open there
pub aim_same : (b : BesideEach) (ls : List Line) (q : Option ℕ) → ((n : ℕ) → beside_in b n ≡ beside_of n ls) → aim_in b q ≡ aim_at q ls
aim_same b ls None f = refl
aim_same b ls (Some n) f = ap (λ (x : Beside). x.aim) (f n)
