-- The first byte of what a server writes.
use Rattle.std.proofs.Common.{◌≡◌, ◌≢◌, ℕ, ◌<◌, ◌≤◌, ◌⊎◌, inl, inr, List, [], ◌∷◌, ◌++◌, length, true, false, eqb, ltb, Option, Some, None, refl, sym, ap, subst, arith, length-append}
use Rattle.std.specs.List.{flat_map}
use Rattle.std.proofs.lemmas.Bool.{cases_lt}
use Rattle.std.proofs.lemmas.Bool.Decides.{nat_tests}
use Rattle.std.proofs.lemmas.List.Concat.{flat_map-cons}
use Rattle.my_frame.specs.declared.limits.TheConstants.{FULL_LENGTH}
use Rattle.my_frame.specs.Numbers.{head_at, ◌>>=◌}
use Rattle.my_frame.specs.Writing.{le_bytes, len_bytes, text_bytes}
use Rattle.my_reply.specs.Server.{cell_bytes}

pub record BeginsLength (n : ℕ) (bytes : List ℕ) : Type 0 where
  pub head : ℕ
  pub rest : List ℕ
  pub spelled : bytes ≡ head ∷ rest
  pub no_err : head ≢ 0xFF
  pub no_ok : 0 < n → head ≢ 0
  pub no_end : (head ≢ 0xFE) ⊎ (0x1000000 ≤ n)

pub length_head : (n : ℕ) → BeginsLength n (len_bytes n)
unfolding len_bytes
length_head n =
    elim (cases_lt n 0xFB) [
      | inl a ↦ let t : ltb n 0xFB ≡ true = grind (arith, nat_tests) in
          record { head = n; rest = []; spelled = rw t refl; no_err = omega arith; no_ok = λ some. omega arith; no_end = inl (omega arith) }
      | inr a ↦ let t : ltb n 0xFB ≡ false = grind (arith, nat_tests) in
          elim (cases_lt n 0x10000) [
            | inl b ↦ let u : ltb n 0x10000 ≡ true = grind (arith, nat_tests) in
                record { head = 0xFC; rest = le_bytes 2 n; spelled = rw (t, u) refl; no_err = omega arith; no_ok = λ some. omega arith; no_end = inl (omega arith) }
            | inr b ↦ let u : ltb n 0x10000 ≡ false = grind (arith, nat_tests) in
                elim (cases_lt n 0x1000000) [
                  | inl c ↦ let v : ltb n 0x1000000 ≡ true = grind (arith, nat_tests) in
                      record { head = 0xFD; rest = le_bytes 3 n; spelled = rw (t, u, v) refl; no_err = omega arith; no_ok = λ some. omega arith; no_end = inl (omega arith) }
                  | inr c ↦ let v : ltb n 0x1000000 ≡ false = grind (arith, nat_tests) in
                      record { head = 0xFE; rest = le_bytes 8 n; spelled = rw (t, u, v) refl; no_err = omega arith; no_ok = λ some. omega arith; no_end = inr c }
                ]
          ]
    ]

pub no_head : (k head : ℕ) (rest : List ℕ) → head ≢ k → head_at k (head ∷ rest) ≡ None
no_head k head rest ne = let t : eqb head k ≡ false = grind (arith, nat_tests) in rw t refl

-- nothing follows what isn't read
pub reads_none : {A B : Type 0} (o : Option A) (f : A → Option B) → o ≡ None → (o >>= f) ≡ None
reads_none {A} {B} o f e = subst (λ (o : Option A). (o >>= f) ≡ None) (sym e) refl

-- The bytes begin with no ERR, and with no end that is shorter than a full chunk.
pub record BeginsCell (bytes : List ℕ) : Type 0 where
  pub head : ℕ
  pub rest : List ℕ
  pub spelled : bytes ≡ head ∷ rest
  pub no_err : head ≢ 0xFF
  pub no_end : (head ≢ 0xFE) ⊎ (FULL_LENGTH ≤ length bytes)

pub cell_head : (cell : Option (List ℕ)) (more : List ℕ) → BeginsCell (cell_bytes cell ++ more)
unfolding le_bytes text_bytes
cell_head None more = record { head = 0xFB; rest = more; spelled = refl; no_err = omega arith; no_end = inl (omega arith) }
cell_head (Some text) more =
    let w = length_head (length text) in
    let e = w.spelled in
    let long : length text ≤ length ((len_bytes (length text) ++ text) ++ more) = simp length-append (omega arith) in
    record {
      head = w.head;
      rest = (w.rest ++ text) ++ more;
      spelled = ap (λ x. (x ++ text) ++ more) e;
      no_err = w.no_err;
      no_end = elim w.no_end [ inl ne ↦ inl ne | inr big ↦ inr (omega arith) ];
    }

pub row_head : (cells : List (Option (List ℕ))) → 0 < length cells → BeginsCell (flat_map cell_bytes cells)
row_head [] some = absurd (omega arith)
row_head (cell ∷ cells) some =
    subst BeginsCell (sym (flat_map-cons cell_bytes cell cells)) (cell_head cell (flat_map cell_bytes cells))
