-- Texts and pairs of texts, and what is seen of them.
use Rattle.std.proofs.Common.{◌≡◌, ℕ, Bool, ◌==◌, ◌&&◌, List, [], ◌∷◌, map, refl, String, string_bytes, string_eq, string_cmp}
use Rattle.std.specs.List.{AllZip}
use Rattle.std.specs.BTreeMap.{insert_entry}
use Rattle.std.specs.declared.cmp.Ordering.TheVariants.{Less, Equal, Greater}
use Rattle.std.specs.Ordering.{match_ordering}
use Rattle.std.specs.Cmp.Lexicographic.{pointwise}
use Rattle.std.specs.Cmp.Derive.Mapped.{pointwise-map}
use Rattle.my_opts_parts.specs.Lists.{pair_bytes, with_attribute, same_attributes}

-- what is seen of the items of a copy is what is seen of the items
pub map-copied : {A B : Type 0} → (view : A → B) (xs ys : List A) → AllZip (λ x y. view y ≡ view x) xs ys → map view ys ≡ map view xs
map-copied view [] [] same = refl
map-copied view [] (y ∷ ys) same = absurd same
map-copied view (x ∷ xs) [] same = absurd same
map-copied view (x ∷ xs) (y ∷ ys) same = rw (same.0, map-copied view xs ys same.1) refl

pub pairs-copied : {A : Type 0} → (xs ys : List (String A × String A)) → AllZip (λ p q. (string_bytes q.0 ≡ string_bytes p.0) × (string_bytes q.1 ≡ string_bytes p.1)) xs ys → map pair_bytes ys ≡ map pair_bytes xs
pairs-copied [] [] same = refl
pairs-copied [] (y ∷ ys) same = absurd same
pairs-copied (x ∷ xs) [] same = absurd same
pairs-copied (x ∷ xs) (y ∷ ys) same = rw (same.0.0, same.0.1, pairs-copied xs ys same.1) refl

-- texts are the same where their bytes are
pub texts-same : {A : Type 0} → (xs ys : List (String A)) (v w : List (List ℕ)) (b : Bool) → map string_bytes xs ≡ v → map string_bytes ys ≡ w → b ≡ pointwise string_eq xs ys → b ≡ pointwise (pointwise ◌==◌) v w
texts-same xs ys v w b seen seen' same = rw (← seen, ← seen', pointwise-map string_bytes (pointwise ◌==◌) xs ys) same

pub pairs-same : {A : Type 0} → (xs ys : List (String A × String A)) (v w : List (List ℕ × List ℕ)) (b : Bool) → map pair_bytes xs ≡ v → map pair_bytes ys ≡ w → b ≡ pointwise (λ p q. string_eq p.0 q.0 && string_eq p.1 q.1) xs ys → b ≡ same_attributes v w
pairs-same xs ys v w b seen seen' same =
    rw (← seen, ← seen', pointwise-map pair_bytes (λ p q. pointwise ◌==◌ p.0 q.0 && pointwise ◌==◌ p.1 q.1) xs ys) same

-- a pair that is put among pairs is seen among what is seen of them
pub insert_entry-seen : {A : Type 0} → (xs : List (String A × String A)) (name value : String A) → map pair_bytes (insert_entry string_cmp xs name value) ≡ with_attribute (map pair_bytes xs) (string_bytes name) (string_bytes value)
insert_entry-seen [] name value = refl
insert_entry-seen (x ∷ xs) name value =
    elim (string_cmp name x.0) as (λ o. map pair_bytes (match_ordering o ((name, value) ∷ x ∷ xs) ((x.0, value) ∷ xs) (x ∷ insert_entry string_cmp xs name value)) ≡ match_ordering o ((string_bytes name, string_bytes value) ∷ pair_bytes x ∷ map pair_bytes xs) ((string_bytes x.0, string_bytes value) ∷ map pair_bytes xs) (pair_bytes x ∷ with_attribute (map pair_bytes xs) (string_bytes name) (string_bytes value))) [
      | Less ↦ refl
      | Equal ↦ refl
      | Greater ↦ rw (insert_entry-seen xs name value) refl
    ]
