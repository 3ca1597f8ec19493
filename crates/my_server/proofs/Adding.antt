-- Payloads that are added at the end.
use Rattle.std.proofs.Common.{◌≡◌, ℕ, ◌+◌, ◌<◌, List, [], ◌∷◌, ◌++◌, length, get_or, map, take, sym, ap, ◌∙◌, append_assoc}
use Rattle.std.proofs.lemmas.List.{map_more}

-- one payload more of a list's
pub added_more : {X : Type 0} (f : X → List ℕ) (xs : List X) (i : ℕ) (x : X) (start now new : List (List ℕ)) → i < length xs → x ≡ get_or xs i x → now ≡ start ++ map f (take i xs) → new ≡ now ++ f x ∷ [] → new ≡ start ++ map f (take (i + 1) xs)
added_more f xs i x start now new within is e put =
    put ∙ ap (λ l. l ++ f x ∷ []) e ∙ append_assoc start _ _ ∙ ap (λ y. start ++ (map f (take i xs) ++ f y ∷ [])) is ∙ ap (λ l. start ++ l) (sym (map_more f xs i x within))

-- three parts, one after the other
pub added_parts : (start first second last one two : List (List ℕ)) → one ≡ start ++ first → two ≡ one ++ second → two ++ last ≡ start ++ ((first ++ second) ++ last)
added_parts start first second last one two e then =
    ap (λ l. l ++ last) (then ∙ ap (λ l. l ++ second) e ∙ append_assoc start first second) ∙ append_assoc start (first ++ second) last
