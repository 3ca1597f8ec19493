-- What is found in a list by a test.
use Rattle.std.proofs.Common.{◌≡◌, Bool, true, false, cond, Some, None, List, [], ◌∷◌, refl, ap, subst}
use Rattle.std.specs.Prelude.{find}
use Rattle.my_frame.specs.Lists.{without}

-- what is found passes the test by which it was found
pub found-passes : {X : Type 0} (key : X → Bool) (xs : List X) (y : X) → find key xs ≡ Some y → key y ≡ true
found-passes key [] y e = absurd (cc)
found-passes key (x ∷ xs) y e =
    elim (key x) as (λ b. key x ≡ b → cond b (Some x) (find key xs) ≡ Some y → key y ≡ true) [
      | true ↦ λ k h. let s : x ≡ y = cc in subst (λ z. key z ≡ true) s k
      | false ↦ λ k h. found-passes key xs y h
    ] refl e

-- where none is found, none is taken out
pub without-unfound : {X : Type 0} (key : X → Bool) (xs : List X) → find key xs ≡ None → without key xs ≡ xs
without-unfound key [] e = refl
without-unfound key (x ∷ xs) e =
    elim (key x) as (λ b. cond b (Some x) (find key xs) ≡ None → cond b xs (x ∷ without key xs) ≡ x ∷ xs) [
      | true ↦ λ h. absurd (cc)
      | false ↦ λ h. ap (λ ys. x ∷ ys) (without-unfound key xs h)
    ] e
