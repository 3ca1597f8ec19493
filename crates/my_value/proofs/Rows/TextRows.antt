-- The cells of a text row, as a relation and as what is read.
use Rattle.std.proofs.Common.{◌≡◌, ℕ, zero, suc, inl, inr, List, [], ◌∷◌, length, true, false, cond, eqb, Some, refl, sym, ap, subst, ◌∙◌, arith}
use Rattle.std.proofs.lemmas.Bool.Decides.{nat_tests}
use Rattle.my_frame.specs.Numbers.{IsText, text_at}
use Rattle.my_frame.proofs.NumberLaws.{bind_then, chosen, same_pair, text_found, text_again}
use Rattle.my_value.specs.declared.value.Value.{Value}
use Rattle.my_value.specs.declared.value.Value.TheVariants.{NULL, Bytes, Int, UInt, FloatBits, DoubleBits, Date, Time}
use Rattle.my_value.specs.TextRow.{IsTextCell, AreTextCells, IsTextRow, text_cell_at, text_cells_at, text_row_at, text_value_at, whole}

pub text_value_found : (bytes : List ℕ) (v : Value) (rest : List ℕ) → text_value_at bytes ≡ Some (v, rest) → (text : List ℕ) × IsText bytes text rest × (Bytes text ≡ v)
text_value_found bytes v rest e =
    bind_then (text_at bytes) _ (v, rest) e (λ x ex n.
    let s = same_pair _ _ n in
    (x.0, subst (λ (r : List ℕ). IsText bytes x.0 r) s.1 (text_found bytes x.0 x.1 ex), s.0))

pub text_cell_found : (bytes : List ℕ) (v : Value) (rest : List ℕ) → text_cell_at bytes ≡ Some (v, rest) → IsTextCell bytes v rest
text_cell_found [] v rest e = absurd cc
text_cell_found (head ∷ bytes) v rest e =
    elim (chosen (eqb head 251) (Some (NULL, bytes)) (text_value_at (head ∷ bytes)) (Some (v, rest)) e) [
      | inl w ↦
          let s = same_pair _ _ w.1 in
          let h : head ≡ 251 = let t = w.0 in grind (arith, nat_tests) in
          let r = s.1 in
          subst (λ (x : Value). IsTextCell (head ∷ bytes) x rest) s.0 cc
      | inr w ↦
          let f = text_value_found (head ∷ bytes) v rest w.1 in
          subst (λ (y : Value). IsTextCell (head ∷ bytes) y rest) f.2 f.1
    ]

text_not_null : (bytes text rest : List ℕ) → IsText (251 ∷ bytes) text rest → ⊥
text_not_null bytes text rest w = let e = text_again (251 ∷ bytes) text rest w in absurd cc

text_cell_bytes : (bytes text rest : List ℕ) → IsText bytes text rest → text_cell_at bytes ≡ Some (Bytes text, rest)
text_cell_bytes [] text rest w = let e = text_again [] text rest w in absurd cc
text_cell_bytes (head ∷ bytes) text rest w =
    elim (chosen (eqb head 251) true false (eqb head 251) (elim (eqb head 251) as (λ b. cond b true false ≡ b) [ true ↦ refl | false ↦ refl ])) [
      | inl b ↦
          let h : head ≡ 251 = let t = b.1 in grind (arith, nat_tests) in
          absurd (text_not_null bytes text rest (subst (λ k. IsText (k ∷ bytes) text rest) h w))
      | inr b ↦ let t : eqb head 251 ≡ false = sym b.1 in rw (t, text_again (head ∷ bytes) text rest w) refl
    ]

pub text_cell_again : (bytes : List ℕ) (v : Value) (rest : List ℕ) → IsTextCell bytes v rest → text_cell_at bytes ≡ Some (v, rest)
text_cell_again bytes NULL rest h = ap text_cell_at h
text_cell_again bytes (Bytes text) rest h = text_cell_bytes bytes text rest h
text_cell_again bytes (Int n) rest h = absurd h
text_cell_again bytes (UInt n) rest h = absurd h
text_cell_again bytes (FloatBits n) rest h = absurd h
text_cell_again bytes (DoubleBits n) rest h = absurd h
text_cell_again bytes (Date a b c d e f g) rest h = absurd h
text_cell_again bytes (Time a b c d e f) rest h = absurd h

-- so many cells at the front, and the bytes after them
cells_found : (count : ℕ) (bytes : List ℕ) (vs : List Value) → text_cells_at count bytes ≡ Some (vs, []) → (length vs ≡ count) × AreTextCells vs bytes
cells_found zero bytes vs e =
    let s = same_pair _ _ e in
    let n = s.0 in
    subst (λ (x : List Value). (length x ≡ 0) × AreTextCells x bytes) s.0 (refl, s.1)
cells_found (suc count) bytes vs e =
    bind_then (text_cell_at bytes) _ (vs, []) e (λ x ex n.
    bind_then (text_cells_at count x.1) _ (vs, []) n (λ y ey m.
    let s = same_pair _ _ m in
    let r = s.1 in
    let all : text_cells_at count x.1 ≡ Some (y.0, []) = ey ∙ ap (λ (q : List ℕ). Some (y.0, q)) r in
    let more = cells_found count x.1 y.0 all in
    subst (λ (z : List Value). (length z ≡ suc count) × AreTextCells z bytes) s.0 (ap suc more.0, (x.1, text_cell_found bytes x.0 x.1 ex, more.1))))

cells_again : (vs : List Value) (bytes : List ℕ) → AreTextCells vs bytes → text_cells_at (length vs) bytes ≡ Some (vs, [])
cells_again [] bytes h = ap (λ x. Some ([], x)) h
cells_again (v ∷ vs) bytes h = rw (text_cell_again bytes v h.0 h.1, cells_again vs h.0 h.2) refl

pub whole_is : (vs cells : List Value) (rest : List ℕ) → whole vs rest ≡ Some cells → (vs ≡ cells) × (rest ≡ [])
whole_is vs cells [] e = (cc, refl)
whole_is vs cells (b ∷ rest) e = absurd cc

pub text_row_found : (count : ℕ) (payload : List ℕ) (cells : List Value) → text_row_at count payload ≡ Some cells → IsTextRow count payload cells
text_row_found count [] cells e = absurd cc
text_row_found count (b ∷ bytes) cells e =
    bind_then (text_cells_at count (b ∷ bytes)) _ cells e (λ x ex n.
    let w = whole_is x.0 cells x.1 n in
    let c = w.0 in
    let r = w.1 in
    let all : text_cells_at count (b ∷ bytes) ≡ Some (cells, []) = ex ∙ ap (λ (q : List Value). Some (q, x.1)) c ∙ ap (λ (q : List ℕ). Some (cells, q)) r in
    let f = cells_found count (b ∷ bytes) cells all in
    record { count_is = f.0; stands = f.1; is_there = λ z. absurd cc })

pub text_row_again : (count : ℕ) (payload : List ℕ) (cells : List Value) → IsTextRow count payload cells → text_row_at count payload ≡ Some cells
text_row_again count [] cells w = absurd (w.is_there refl)
text_row_again count (b ∷ bytes) cells w =
    let e : text_cells_at count (b ∷ bytes) ≡ Some (cells, []) = subst (λ k. text_cells_at k (b ∷ bytes) ≡ Some (cells, [])) w.count_is (cells_again cells (b ∷ bytes) w.stands) in
    rw e refl
