-- The cells of a binary row, as a relation and as what is read.
use Rattle.std.proofs.Common.{◌≡◌, ℕ, ◌+◌, inl, inr, List, [], ◌∷◌, ◌++◌, length, Bool, true, false, eqb, Option, Some, None, refl, sym, ap, subst, ◌∙◌, arith}
use Rattle.std.proofs.lemmas.Bool.Decides.{nat_tests}
use Rattle.my_frame.specs.Numbers.{IsNumber, number_at, bytes_at}
use Rattle.my_frame.proofs.NumberLaws.{bind_then, chosen, same_pair, bytes_found, bytes_again, number_found, number_again, text_again}
use Rattle.my_reply.specs.declared.column.Column.{Column}
use Rattle.std.specs.Int.{w8, w16, w32}
use Rattle.my_value.specs.declared.value.Value.{Value}
use Rattle.my_value.specs.declared.value.Value.TheVariants as values
use Rattle.my_value.specs.declared.form.CellForm.{CellForm}
use Rattle.my_value.specs.declared.form.CellForm.TheVariants.{Tiny, Short, Long, LongLong, Float, Double, Date, Time, Null, Text}
use Rattle.my_value.specs.CellForm.{form_of_type, is_unsigned}
use Rattle.my_value.specs.BinaryCell.{IsBinaryCell, IsSized, integer, long_integer, date_of, time_of, sized_at, numeric_at, binary_cell_at}
use Rattle.my_value.specs.BinaryRow.{IsColumnCell, AreBinaryCells, IsBinaryRow, bitmap_len, is_null_at, column_cell_at, binary_cells_at, bitmap_at, binary_row_at}
use Rattle.my_value.proofs.Rows.TextRows.{text_value_found, whole_is}

numeric_found : (value_of : ℕ → Value) (count : ℕ) (bytes : List ℕ) (v : Value) (rest : List ℕ) → numeric_at value_of count bytes ≡ Some (v, rest) → (n : ℕ) × IsNumber count bytes n rest × (value_of n ≡ v)
numeric_found value_of count bytes v rest e =
    bind_then (number_at count bytes) _ (v, rest) e (λ x ex n.
    let s = same_pair _ _ n in
    (x.0, subst (λ (r : List ℕ). IsNumber count bytes x.0 r) s.1 (number_found count bytes x.0 x.1 ex), s.0))

numeric_again : (value_of : ℕ → Value) (count : ℕ) (bytes : List ℕ) (v : Value) (rest : List ℕ) (n : ℕ) → IsNumber count bytes n rest → value_of n ≡ v → numeric_at value_of count bytes ≡ Some (v, rest)
numeric_again value_of count bytes v rest n w e = rw (number_again count bytes n rest w, e) refl

sized_found : (value_of : List ℕ → Option Value) (bytes : List ℕ) (v : Value) (rest : List ℕ) → sized_at value_of bytes ≡ Some (v, rest) → IsSized value_of bytes v rest
sized_found value_of [] v rest e = absurd cc
sized_found value_of (len ∷ bytes) v rest e =
    bind_then (bytes_at len bytes) _ (v, rest) e (λ x ex n.
    bind_then (value_of x.0) _ (v, rest) n (λ u eu m.
    let s = same_pair _ _ m in
    let p = bytes_found len bytes x.0 x.1 ex in
    let q = p.spelled in
    let l = p.count_is in
    let r = s.1 in
    let u' = s.0 in
    (x.0, ap (λ (y : List ℕ). len ∷ y) (q ∙ ap (λ (y : List ℕ). x.0 ++ y) r) ∙ ap (λ k. k ∷ (x.0 ++ rest)) (sym l), eu ∙ ap (λ (y : Value). Some y) u')))

pub sized_again : (value_of : List ℕ → Option Value) (bytes : List ℕ) (v : Value) (rest : List ℕ) → IsSized value_of bytes v rest → sized_at value_of bytes ≡ Some (v, rest)
sized_again value_of bytes v rest w =
    let read : bytes_at (length w.0) (w.0 ++ rest) ≡ Some (w.0, rest) = bytes_again (length w.0) (w.0 ++ rest) w.0 rest (record { count_is = refl; spelled = refl }) in
    rw (w.1, read, w.2) refl

pub binary_cell_found : (form : CellForm) (unsigned : Bool) (bytes : List ℕ) (v : Value) (rest : List ℕ) → binary_cell_at form unsigned bytes ≡ Some (v, rest) → IsBinaryCell form unsigned bytes v rest
binary_cell_found Tiny unsigned bytes v rest e = numeric_found (integer w8 unsigned) 1 bytes v rest e
binary_cell_found Short unsigned bytes v rest e = numeric_found (integer w16 unsigned) 2 bytes v rest e
binary_cell_found Long unsigned bytes v rest e = numeric_found (integer w32 unsigned) 4 bytes v rest e
binary_cell_found LongLong unsigned bytes v rest e = numeric_found (long_integer unsigned) 8 bytes v rest e
binary_cell_found Float unsigned bytes v rest e = numeric_found values.FloatBits 4 bytes v rest e
binary_cell_found Double unsigned bytes v rest e = numeric_found values.DoubleBits 8 bytes v rest e
binary_cell_found Date unsigned bytes v rest e = sized_found date_of bytes v rest e
binary_cell_found Time unsigned bytes v rest e = sized_found time_of bytes v rest e
binary_cell_found Null unsigned bytes v rest e = let s = same_pair _ _ e in (sym s.0, s.1)
binary_cell_found Text unsigned bytes v rest e = text_value_found bytes v rest e

pub binary_cell_again : (form : CellForm) (unsigned : Bool) (bytes : List ℕ) (v : Value) (rest : List ℕ) → IsBinaryCell form unsigned bytes v rest → binary_cell_at form unsigned bytes ≡ Some (v, rest)
binary_cell_again Tiny unsigned bytes v rest w = numeric_again (integer w8 unsigned) 1 bytes v rest w.0 w.1 w.2
binary_cell_again Short unsigned bytes v rest w = numeric_again (integer w16 unsigned) 2 bytes v rest w.0 w.1 w.2
binary_cell_again Long unsigned bytes v rest w = numeric_again (integer w32 unsigned) 4 bytes v rest w.0 w.1 w.2
binary_cell_again LongLong unsigned bytes v rest w = numeric_again (long_integer unsigned) 8 bytes v rest w.0 w.1 w.2
binary_cell_again Float unsigned bytes v rest w = numeric_again values.FloatBits 4 bytes v rest w.0 w.1 w.2
binary_cell_again Double unsigned bytes v rest w = numeric_again values.DoubleBits 8 bytes v rest w.0 w.1 w.2
binary_cell_again Date unsigned bytes v rest w = sized_again date_of bytes v rest w
binary_cell_again Time unsigned bytes v rest w = sized_again time_of bytes v rest w
binary_cell_again Null unsigned bytes v rest w = rw (w.0, w.1) refl
binary_cell_again Text unsigned bytes v rest w = rw (text_again bytes w.0 rest w.1, w.2) refl

pub column_cell_found : (null : Bool) (c : Column) (bytes : List ℕ) (v : Value) (rest : List ℕ) → column_cell_at null c.column_type c.flags bytes ≡ Some (v, rest) → IsColumnCell null c bytes v rest
column_cell_found true c bytes v rest e = let s = same_pair _ _ e in (sym s.0, s.1)
column_cell_found false c bytes v rest e =
    bind_then (form_of_type c.column_type) _ (v, rest) e (λ form ef n. (form, ef, binary_cell_found form (is_unsigned c.flags) bytes v rest n))

pub column_cell_again : (null : Bool) (c : Column) (bytes : List ℕ) (v : Value) (rest : List ℕ) → IsColumnCell null c bytes v rest → column_cell_at null c.column_type c.flags bytes ≡ Some (v, rest)
column_cell_again true c bytes v rest w = rw (w.0, w.1) refl
column_cell_again false c bytes v rest w = rw w.1 (binary_cell_again w.0 (is_unsigned c.flags) bytes v rest w.2)

cells_found : (place : ℕ) (bitmap : List ℕ) (columns : List Column) (bytes : List ℕ) (vs : List Value) → binary_cells_at place bitmap columns bytes ≡ Some (vs, []) → AreBinaryCells place bitmap columns vs bytes
cells_found place bitmap [] bytes vs e =
    let s = same_pair _ _ e in
    subst (λ (x : List Value). AreBinaryCells place bitmap [] x bytes) s.0 s.1
cells_found place bitmap (c ∷ cs) bytes vs e =
    bind_then (column_cell_at (is_null_at bitmap place) c.column_type c.flags bytes) _ (vs, []) e (λ x ex n.
    bind_then (binary_cells_at (place + 1) bitmap cs x.1) _ (vs, []) n (λ y ey m.
    let s = same_pair _ _ m in
    let r = s.1 in
    let all : binary_cells_at (place + 1) bitmap cs x.1 ≡ Some (y.0, []) = ey ∙ ap (λ (q : List ℕ). Some (y.0, q)) r in
    subst (λ (z : List Value). AreBinaryCells place bitmap (c ∷ cs) z bytes) s.0 (x.1, column_cell_found (is_null_at bitmap place) c bytes x.0 x.1 ex, cells_found (place + 1) bitmap cs x.1 y.0 all)))

cells_again : (place : ℕ) (bitmap : List ℕ) (columns : List Column) (vs : List Value) (bytes : List ℕ) → AreBinaryCells place bitmap columns vs bytes → binary_cells_at place bitmap columns bytes ≡ Some (vs, [])
cells_again place bitmap [] [] bytes h = ap (λ (x : List ℕ). Some ([], x)) h
cells_again place bitmap [] (v ∷ vs) bytes h = absurd h
cells_again place bitmap (c ∷ cs) [] bytes h = absurd h
cells_again place bitmap (c ∷ cs) (v ∷ vs) bytes h = rw (column_cell_again (is_null_at bitmap place) c bytes v h.0 h.1, cells_again (place + 1) bitmap cs vs h.0 h.2) refl

bitmap_found : (count : ℕ) (payload bitmap bytes : List ℕ) → bitmap_at count payload ≡ Some (bitmap, bytes) → (payload ≡ 0 ∷ (bitmap ++ bytes)) × (length bitmap ≡ bitmap_len count)
bitmap_found count [] bitmap bytes e = absurd cc
bitmap_found count (head ∷ rest) bitmap bytes e =
    elim (chosen (eqb head 0) (bytes_at (bitmap_len count) rest) None (Some (bitmap, bytes)) e) [
      | inl w ↦
          let p = bytes_found (bitmap_len count) rest bitmap bytes w.1 in
          let h : head ≡ 0 = let t = w.0 in grind (arith, nat_tests) in
          let q = p.spelled in
          (ap (λ k. k ∷ rest) h ∙ ap (λ (y : List ℕ). 0 ∷ y) q, p.count_is)
      | inr w ↦ let t = w.1 in absurd cc
    ]

pub binary_row_found : (columns : List Column) (payload : List ℕ) (cells : List Value) → binary_row_at columns payload ≡ Some cells → IsBinaryRow columns payload cells
binary_row_found columns payload cells e =
    bind_then (bitmap_at (length columns) payload) _ cells e (λ m em n.
    bind_then (binary_cells_at 0 m.0 columns m.1) _ cells n (λ x ex k.
    let w = whole_is x.0 cells x.1 k in
    let c = w.0 in
    let r = w.1 in
    let all : binary_cells_at 0 m.0 columns m.1 ≡ Some (cells, []) = ex ∙ ap (λ (q : List Value). Some (q, x.1)) c ∙ ap (λ (q : List ℕ). Some (cells, q)) r in
    let b = bitmap_found (length columns) payload m.0 m.1 em in
    record { bitmap = m.0; values = m.1; spelled = b.0; bitmap_is = b.1; stand = cells_found 0 m.0 columns m.1 cells all }))

pub binary_row_again : (columns : List Column) (payload : List ℕ) (cells : List Value) → IsBinaryRow columns payload cells → binary_row_at columns payload ≡ Some cells
binary_row_again columns payload cells w =
    let read : bytes_at (bitmap_len (length columns)) (w.bitmap ++ w.values) ≡ Some (w.bitmap, w.values) = bytes_again (bitmap_len (length columns)) (w.bitmap ++ w.values) w.bitmap w.values (record { count_is = w.bitmap_is; spelled = refl }) in
    rw (w.spelled, read, cells_again 0 w.bitmap columns cells w.values w.stand) refl
