-- How bytes are cut into pieces.
use Rattle.std.proofs.Common.{◌≡◌, ◌≢◌, ◌==◌, ◌<◌, ◌+◌, ℕ, List, [], ◌∷◌, ◌++◌, length, get_or, Some, None, Bool, true, false, refl, ap, arith}
use Rattle.std.proofs.lemmas.Bool.Decides.{nat_tests}
use Rattle.std.proofs.lemmas.Grind.{common_steps}
use Rattle.std.specs.List.{slice_split}
use Rattle.my_script.specs.Cut.{first_of, rest_of, pieces_left}

-- the first piece and the pieces after it
pub pieces_cut : (mark : ℕ) (bs : List ℕ) → slice_split (λ b. b == mark) bs ≡ first_of mark bs ∷ pieces_left mark (rest_of mark bs)
pieces_cut mark [] = refl
pieces_cut mark (b ∷ bs) = by_test (b == mark) refl (pieces_cut mark bs)
  where
    by_test : (t : Bool) → (b == mark) ≡ t → slice_split (λ b. b == mark) bs ≡ first_of mark bs ∷ pieces_left mark (rest_of mark bs) → slice_split (λ b. b == mark) (b ∷ bs) ≡ first_of mark (b ∷ bs) ∷ pieces_left mark (rest_of mark (b ∷ bs))
    by_test true e more = rw e refl
    by_test false e more = rw (e, more) refl

-- no byte of the list is the mark
abbrev pub Lacks : ℕ → List ℕ → Type 0
Lacks mark xs = (i : ℕ) → i < length xs → get_or xs i 0 ≢ mark

head_differs : (mark x : ℕ) (xs : List ℕ) → Lacks mark (x ∷ xs) → (x == mark) ≡ false
head_differs mark x xs h = let ne : x ≢ mark = h 0 (omega arith) in grind (arith, nat_tests)

Lacks-tail : (mark x : ℕ) (xs : List ℕ) → Lacks mark (x ∷ xs) → Lacks mark xs
Lacks-tail mark x xs h i lt = let k = h (i + 1) (grind (arith, common_steps)) in grind (arith, common_steps)

same_test : (mark : ℕ) → (mark == mark) ≡ true
same_test mark = grind (arith, nat_tests)

pub first_lacks : (mark : ℕ) (xs : List ℕ) → Lacks mark xs → xs ≡ first_of mark xs
first_lacks mark [] h = refl
first_lacks mark (x ∷ xs) h = rw (head_differs mark x xs h) (ap (λ ys. x ∷ ys) (first_lacks mark xs (Lacks-tail mark x xs h)))

pub rest_lacks : (mark : ℕ) (xs : List ℕ) → Lacks mark xs → None ≡ rest_of mark xs
rest_lacks mark [] h = refl
rest_lacks mark (x ∷ xs) h = rw (head_differs mark x xs h) (rest_lacks mark xs (Lacks-tail mark x xs h))

pub first_at : (mark : ℕ) (xs ys : List ℕ) → Lacks mark xs → xs ≡ first_of mark (xs ++ mark ∷ ys)
first_at mark [] ys h = rw (same_test mark) refl
first_at mark (x ∷ xs) ys h = rw (head_differs mark x xs h) (ap (λ zs. x ∷ zs) (first_at mark xs ys (Lacks-tail mark x xs h)))

pub rest_at : (mark : ℕ) (xs ys : List ℕ) → Lacks mark xs → Some ys ≡ rest_of mark (xs ++ mark ∷ ys)
rest_at mark [] ys h = rw (same_test mark) refl
rest_at mark (x ∷ xs) ys h = rw (head_differs mark x xs h) (rest_at mark xs ys (Lacks-tail mark x xs h))
