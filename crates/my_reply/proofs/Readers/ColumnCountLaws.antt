-- The packet that begins a set of rows, as a relation and as what is read.
use Rattle.std.proofs.Common.{◌≡◌, inl, inr, ℕ, Bool, true, false, ◌&&◌, List, [], ◌∷◌, eqb, ltb, leb, Some, None, refl, subst, arith}
use Rattle.std.proofs.lemmas.Bool.Decides.{nat_tests}
use Rattle.my_reply.specs.declared.column_count.ColumnCount.{ColumnCount}
use Rattle.my_frame.specs.Numbers.{len_at}
use Rattle.my_reply.specs.ColumnCount.{IsSkipped, IsColumnCount, skipped_at, column_count_at}
use Rattle.my_frame.proofs.NumberLaws.{bind_then, chosen, passed, len_found, len_again}

skipped_found : (cached : Bool) (left : List ℕ) (skipped : Bool) → skipped_at cached left ≡ Some skipped → IsSkipped cached left skipped
skipped_found cached [] skipped e = inl (refl, cc)
skipped_found cached (b ∷ []) skipped e =
    elim (chosen (cached && eqb b 0) (Some true) _ (Some skipped) e) [
      | inl w ↦
          let t = w.0 in
          let s = w.1 in
          let z : b ≡ 0 = grind (arith, nat_tests) in
          inr (inl (grind (arith, nat_tests), cc, cc))
      | inr w ↦ elim (chosen (cached && eqb b 1) (Some false) None (Some skipped) w.1) [
        | inl v ↦
            let t = v.0 in
            let s = v.1 in
            let z : b ≡ 1 = grind (arith, nat_tests) in
            inr (inr (grind (arith, nat_tests), cc, cc))
        | inr v ↦ let t = v.1 in absurd cc
      ]
    ]
skipped_found cached (b ∷ c ∷ left) skipped e = absurd cc

skipped_again : (cached : Bool) (left : List ℕ) (skipped : Bool) → IsSkipped cached left skipped → skipped_at cached left ≡ Some skipped
skipped_again cached left skipped h =
    elim h [
      | inl w ↦ rw (w.0, w.1) refl
      | inr w ↦ elim w [ inl v ↦ rw (v.0, v.1, v.2) refl | inr v ↦ rw (v.0, v.1, v.2) refl ]
    ]

pub column_count_found : (cached : Bool) (payload : List ℕ) (columns : ColumnCount) → column_count_at cached payload ≡ Some columns → IsColumnCount cached payload columns
column_count_found cached payload columns e =
    bind_then (len_at payload) _ columns e (λ a ea na.
    bind_then (skipped_at cached a.1) _ columns na (λ b eb nb.
    let fields : ColumnCount = record { count = a.0; skipped = b } in
    let p = passed (ltb 0 a.0 && leb a.0 65535) fields columns nb in
    let t = p.0 in
    subst (λ o. IsColumnCount cached payload o) {x = fields} p.1 (record {
      left = a.1;
      count = len_found payload a.0 a.1 ea;
      skipped = skipped_found cached a.1 b eb;
      some = grind (arith, nat_tests);
      few = grind (arith, nat_tests);
    })))

pub column_count_again : (cached : Bool) (payload : List ℕ) (columns : ColumnCount) → IsColumnCount cached payload columns → column_count_at cached payload ≡ Some columns
column_count_again cached payload columns w =
    let some = w.some in
    let few = w.few in
    let b : (ltb 0 columns.count && leb columns.count 65535) ≡ true = grind (arith, nat_tests) in
    rw (len_again payload columns.count w.left w.count, skipped_again cached w.left columns.skipped w.skipped, b) refl
