-- What went out so far.
use Rattle.std.proofs.Common.{ℕ, ◌≡◌, ◌+◌, zero, suc, List, [], ◌∷◌, ◌++◌, take, drop, Option, Some, None, refl, sym, ap, ◌∙◌, subst, arith}
use Rattle.std.proofs.lemmas.List.{take-append-drop, append_assoc}
use Rattle.my_frame.specs.Outside.{Comes, Rose}
use Rattle.my_frame.specs.Sinks.{SinkSeen}
use Rattle.my_run.specs.Output.{WrotePart}

comes_on : (a b c : Option (List ℕ)) (xs ys : List ℕ) → Comes a xs b → Comes b ys c → Comes a (xs ++ ys) c
comes_on None None None xs ys p q = tt
comes_on None None (Some c) xs ys p q = absurd q
comes_on None (Some b) c xs ys p q = absurd p
comes_on (Some a) None c xs ys p q = absurd p
comes_on (Some a) (Some b) None xs ys p q = absurd q
comes_on (Some a) (Some b) (Some c) xs ys p q = q ∙ ap (λ zs. zs ++ ys) p ∙ append_assoc a xs ys

take_nil : (n : ℕ) → take {A = ℕ} n [] ≡ []
take_nil zero = refl
take_nil (suc n) = refl

take_plus : (k n : ℕ) (bs : List ℕ) → take k bs ++ take n (drop k bs) ≡ take (k + n) bs
take_plus zero n bs = let e : 0 + n ≡ n = omega arith in ap (λ n. take n bs) (sym e)
take_plus (suc k) n [] = take_nil n ∙ sym (take_nil (suc k + n))
take_plus (suc k) n (b ∷ bs) = let e : suc k + n ≡ suc (k + n) = omega arith in ap (λ xs. b ∷ xs) (take_plus k n bs) ∙ ap (λ m. take m (b ∷ bs)) (sym e)

pub went : (a b c : Option (List ℕ)) (k n : ℕ) (bs : List ℕ) → Comes a (take k bs) b → Comes b (take n (drop k bs)) c → Comes a (take (k + n) bs) c
went a b c k n bs p q = subst (λ (xs : List ℕ). Comes a xs c) (take_plus k n bs) (comes_on a b c (take k bs) (take n (drop k bs)) p q)

pub stopped : (a b c : SinkSeen) (k : ℕ) (bs : List ℕ) → Comes a.took (take k bs) b.took → c.took ≡ b.took → b.faults ≡ a.faults → Rose b.faults c.faults → WrotePart a bs c
stopped a b c k bs p e f r = record {
  front = take k bs;
  rest = drop k bs;
  cut = take-append-drop k bs;
  came = subst (Comes a.took (take k bs)) (sym e) p;
  fault = subst (λ (n : ℕ). Rose n c.faults) f r;
}
