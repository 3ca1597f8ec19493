-- A loop that leaves at the first element that fails a test.
use Rattle.std.proofs.Common.{◌≡◌, ℕ, ◌+◌, ◌<◌, Bool, List, ◌∷◌, length, get_or, drop, sym, ap, ◌∙◌}
use Rattle.std.proofs.lemmas.List.{at_drop_more}
use Rattle.std.specs.Prelude.{◌&&◌}
use Rattle.std.specs.List.{list_all}

-- whether all pass, by whether the next does
pub all_by_next : {X : Type 0} (p : X → Bool) (xs : List X) (i : ℕ) (x : X) (passes : Bool) → i < length xs → x ≡ get_or xs i x → passes ≡ p x → list_all p (drop i xs) ≡ list_all p xs → (passes && list_all p (drop (i + 1) xs)) ≡ list_all p xs
all_by_next p xs i x passes within is e left =
    let rest = drop (i + 1) xs in
    ap (λ (b : Bool). b && list_all p rest) e ∙ ap (λ y. list_all p (y ∷ rest)) is ∙ sym (at_drop_more (list_all p) xs i x within) ∙ left
