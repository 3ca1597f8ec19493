-- What is found by a number, as an age or that of a connection, after a list changed.
use Rattle.std.proofs.Common.{◌≡◌, ℕ, ◌+◌, ◌≤◌, Bool, true, false, cond, Some, None, List, [], ◌∷◌, ◌++◌, refl, sym, ap, ◌∙◌, arith}
use Rattle.std.specs.Prelude.{find, ◌==◌, ◌||◌}
use Rattle.std.specs.List.{list_any}
use Rattle.std.proofs.lemmas.Bool.Decides.{nat_tests}
use Rattle.my_frame.specs.Lists.{without}
use Rattle.my_pool_parts.specs.Lists.{how_many}
use Rattle.my_pool_parts.proofs.Finding.{one}

-- whether something has this number
abbrev pub has : {X : Type 0} → (X → ℕ) → ℕ → X → Bool
has id n x = id x == n

-- another number than this one
pub other-number : (k n m : ℕ) → (m == n) ≡ false → (k == n) ≡ true → (k == m) ≡ false
other-number k n m e f = grind (arith, nat_tests)

pub unlike : (a b : ℕ) → (b == a) ≡ false → (a == b) ≡ false
unlike a b e = grind (arith, nat_tests)

-- another one is found as before
pub find-left : {X : Type 0} (id : X → ℕ) (n m : ℕ) (xs : List X) → (m == n) ≡ false → find (has id m) (without (has id n) xs) ≡ find (has id m) xs
find-left id n m [] e = refl
find-left id n m (x ∷ xs) e =
    elim (has id n x) as (λ t. has id n x ≡ t → find (has id m) (cond t xs (x ∷ without (has id n) xs)) ≡ cond (has id m x) (Some x) (find (has id m) xs)) [
      | true ↦ λ h. sym (ap (λ t. cond t (Some x) (find (has id m) xs)) (other-number (id x) n m e h))
      | false ↦ λ h. ap (cond (has id m x) (Some x)) (find-left id n m xs e)
    ] refl

pub none-found : {X : Type 0} (id : X → ℕ) (n : ℕ) (xs : List X) → how_many (has id n) xs ≡ 0 → find (has id n) xs ≡ None
none-found id n [] e = refl
none-found id n (x ∷ xs) e =
    elim (has id n x) as (λ k. one k + how_many (has id n) xs ≡ 0 → cond k (Some x) (find (has id n) xs) ≡ None) [
      | true ↦ λ h. absurd (omega arith)
      | false ↦ λ h. none-found id n xs (omega arith)
    ] e

-- what is there once isn't found once it was taken out
pub find-gone : {X : Type 0} (id : X → ℕ) (n : ℕ) (xs : List X) → how_many (has id n) xs ≤ 1 → find (has id n) (without (has id n) xs) ≡ None
find-gone id n [] h = refl
find-gone id n (x ∷ xs) h =
    elim (has id n x) as (λ b. has id n x ≡ b → one b + how_many (has id n) xs ≤ 1 → find (has id n) (cond b xs (x ∷ without (has id n) xs)) ≡ None) [
      | true ↦ λ e k. none-found id n xs (omega arith)
      | false ↦ λ e k. ap (λ b. cond b (Some x) (find (has id n) (without (has id n) xs))) e ∙ find-gone id n xs (omega arith)
    ] refl h

-- one more that has another number
pub find-pushed : {X : Type 0} (id : X → ℕ) (n : ℕ) (xs : List X) (y : X) → has id n y ≡ false → find (has id n) (xs ++ y ∷ []) ≡ find (has id n) xs
find-pushed id n [] y e = ap (λ k. cond k (Some y) None) e
find-pushed id n (x ∷ xs) y e = ap (cond (has id n x) (Some x)) (find-pushed id n xs y e)

-- and one more that has this one, after a list in which none has it
pub find-new : {X : Type 0} (id : X → ℕ) (n : ℕ) (xs ys : List X) (y : X) → find (has id n) xs ≡ None → has id n y ≡ true → find (has id n) (xs ++ y ∷ ys) ≡ Some y
find-new id n [] ys y none e = ap (λ k. cond k (Some y) (find (has id n) ys)) e
find-new id n (x ∷ xs) ys y none e =
    elim (has id n x) as (λ k. cond k (Some x) (find (has id n) xs) ≡ None → cond k (Some x) (find (has id n) (xs ++ y ∷ ys)) ≡ Some y) [
      | true ↦ λ h. absurd (cc)
      | false ↦ λ h. find-new id n xs ys y h e
    ] none

-- one in the middle that has another number
pub find-past : {X : Type 0} (id : X → ℕ) (n : ℕ) (xs ys : List X) (y : X) → has id n y ≡ false → find (has id n) (xs ++ y ∷ ys) ≡ find (has id n) (xs ++ ys)
find-past id n [] ys y e = ap (λ k. cond k (Some y) (find (has id n) ys)) e
find-past id n (x ∷ xs) ys y e = ap (cond (has id n x) (Some x)) (find-past id n xs ys y e)

pub find-nowhere : {X : Type 0} (id : X → ℕ) (n : ℕ) (xs : List X) → list_any (has id n) xs ≡ false → find (has id n) xs ≡ None
find-nowhere id n [] e = refl
find-nowhere id n (x ∷ xs) e =
    elim (has id n x) as (λ k. (k || list_any (has id n) xs) ≡ false → cond k (Some x) (find (has id n) xs) ≡ None) [
      | true ↦ λ h. absurd (cc)
      | false ↦ λ h. find-nowhere id n xs h
    ] e

pub find-somewhere : {X : Type 0} (id : X → ℕ) (n : ℕ) (xs : List X) → list_any (has id n) xs ≡ true → (x : X) × (find (has id n) xs ≡ Some x)
find-somewhere {X} id n [] e = absurd (cc)
find-somewhere {X} id n (x ∷ xs) e =
    elim (has id n x) as (λ k. (k || list_any (has id n) xs) ≡ true → (y : X) × (cond k (Some x) (find (has id n) xs) ≡ Some y)) [
      | true ↦ λ h. (x, refl)
      | false ↦ λ h. find-somewhere id n xs h
    ] e
