-- Lists that options hold, as their bytes.
use Rattle.std.specs.Prelude.{ℕ, ◌==◌, ◌&&◌, Bool, List, String, string_bytes}
use Rattle.std.specs.Ordering.{nat_cmp}
use Rattle.std.specs.BTreeMap.{insert_entry}
use Rattle.std.specs.Cmp.{IsEquivalence, and_equiv, on_equiv}
use Rattle.std.specs.Cmp.Lexicographic.{pointwise, slice_cmp, lists_equiv, nat_list_eq_equiv}

-- a name with its value, as bytes
abbrev pub pair_bytes : {A : Type 0} → String A × String A → List ℕ × List ℕ
pair_bytes p = (string_bytes p.0, string_bytes p.1)

-- the attributes, in byte order of their names, with this value at this name
abbrev pub with_attribute : List (List ℕ × List ℕ) → List ℕ → List ℕ → List (List ℕ × List ℕ)
with_attribute attributes name value = insert_entry (slice_cmp nat_cmp) attributes name value

-- the same names with the same values
abbrev pub same_attributes : List (List ℕ × List ℕ) → List (List ℕ × List ℕ) → Bool
same_attributes = pointwise (λ p q. pointwise ◌==◌ p.0 q.0 && pointwise ◌==◌ p.1 q.1)

pub same_attributes_laws : IsEquivalence same_attributes
same_attributes_laws =
    lists_equiv (and_equiv (on_equiv (λ p. p.0) nat_list_eq_equiv) (on_equiv (λ p. p.1) nat_list_eq_equiv))
