-- What becomes something converts, cell by cell: laws that the implementations of the conversions cite.
use Rattle.std.specs.Prelude.{◌≡◌, ◌⊎◌, List, [], ◌∷◌, Option, Some, None}
use Rattle.std.proofs.Common.{inl, inr}
use Rattle.my_value.specs.declared.value.Value.{Value}
use Rattle.my_value.specs.declared.value.Value.TheVariants.{NULL}
use Rattle.my_value.specs.Conversions.{Becomes, IsOptional}
use Rattle.my_value.specs.RowConversions.{OneCell, TwoCells, ThreeCells, FourCells}

-- each value that becomes something converts
abbrev pub Follows : {T : Type 0} → (Value → Type 0) → (Value → T → Type 0) → Type 0
Follows {T} converts becomes = (v : Value) (x : T) → becomes v x → converts v

pub optional_converts : {T : Type 0} (P : Value → Type 0) (F : Value → T → Type 0) → Follows P F
    → (v : Value) (x : Option T) → IsOptional F v x → (v ≡ NULL) ⊎ P v
optional_converts P F law v None h = inl h
optional_converts P F law v (Some x) h = inr (law v x h.1)

pub one_converts : {A : Type 0} (P : Value → Type 0) (F : Value → A → Type 0) → Follows P F
    → (cells : List Value) (a : A) → OneCell (λ v. F v a) cells → OneCell P cells
one_converts P F p [] a h = h
one_converts P F p (v ∷ []) a h = p v a h
one_converts P F p (v ∷ w ∷ cells) a h = h

pub one_becomes : {A : Type 0} (F : Value → A → Type 0) (cells : List Value) (a : A)
    → OneCell (λ v. F v a) cells → OneCell (Becomes F) cells
one_becomes F cells a h = one_converts (Becomes F) F (λ v x f. (x, f)) cells a h

pub two_convert : {A B : Type 0} (P : Value → Type 0) (F : Value → A → Type 0) → Follows P F
    → (Q : Value → Type 0) (G : Value → B → Type 0) → Follows Q G
    → (cells : List Value) (a : A) (b : B) → TwoCells (λ v. F v a) (λ v. G v b) cells → TwoCells P Q cells
two_convert P F p Q G q [] a b h = h
two_convert P F p Q G q (v ∷ []) a b h = h
two_convert P F p Q G q (v ∷ w ∷ []) a b h = (p v a h.0, q w b h.1)
two_convert P F p Q G q (v ∷ w ∷ u ∷ cells) a b h = h

pub three_convert : {A B C : Type 0} (P : Value → Type 0) (F : Value → A → Type 0) → Follows P F
    → (Q : Value → Type 0) (G : Value → B → Type 0) → Follows Q G
    → (R : Value → Type 0) (H : Value → C → Type 0) → Follows R H
    → (cells : List Value) (a : A) (b : B) (c : C)
    → ThreeCells (λ v. F v a) (λ v. G v b) (λ v. H v c) cells → ThreeCells P Q R cells
three_convert P F p Q G q R H r [] a b c h = h
three_convert P F p Q G q R H r (v ∷ []) a b c h = h
three_convert P F p Q G q R H r (v ∷ w ∷ []) a b c h = h
three_convert P F p Q G q R H r (v ∷ w ∷ u ∷ []) a b c h = (p v a h.0, q w b h.1, r u c h.2)
three_convert P F p Q G q R H r (v ∷ w ∷ u ∷ t ∷ cells) a b c h = h

pub four_convert : {A B C D : Type 0} (P : Value → Type 0) (F : Value → A → Type 0) → Follows P F
    → (Q : Value → Type 0) (G : Value → B → Type 0) → Follows Q G
    → (R : Value → Type 0) (H : Value → C → Type 0) → Follows R H
    → (S : Value → Type 0) (I : Value → D → Type 0) → Follows S I
    → (cells : List Value) (a : A) (b : B) (c : C) (d : D)
    → FourCells (λ v. F v a) (λ v. G v b) (λ v. H v c) (λ v. I v d) cells → FourCells P Q R S cells
four_convert P F p Q G q R H r S I s [] a b c d h = h
four_convert P F p Q G q R H r S I s (v ∷ []) a b c d h = h
four_convert P F p Q G q R H r S I s (v ∷ w ∷ []) a b c d h = h
four_convert P F p Q G q R H r S I s (v ∷ w ∷ u ∷ []) a b c d h = h
four_convert P F p Q G q R H r S I s (v ∷ w ∷ u ∷ t ∷ []) a b c d h = (p v a h.0, q w b h.1, r u c h.2, s t d h.3)
four_convert P F p Q G q R H r S I s (v ∷ w ∷ u ∷ t ∷ o ∷ cells) a b c d h = h
