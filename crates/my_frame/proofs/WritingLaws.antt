-- What was written is read again, whatever follows it.
use Rattle.std.proofs.Common.{◌≡◌, ℕ, zero, suc, ◌*◌, ◌/◌, ◌^◌, ◌<◌, List, [], ◌∷◌, ◌++◌, length, true, false, ltb, eqb, Some, inl, inr, refl, ap, arith, append_assoc, pow-suc}
use Rattle.std.proofs.lemmas.Bool.Decides.{nat_tests}
use Rattle.std.proofs.lemmas.Bool.{cases_lt}
use Rattle.std.specs.List.{before_first}
use Rattle.my_frame.specs.Numbers.{le_value, number_at, len_at, text_at, text0_at}
use Rattle.my_frame.specs.Writing.{le_bytes, len_bytes, text_bytes, text0_bytes}
use Rattle.my_frame.proofs.NumberLaws.{bytes_again, number_again, text0_again, before_found}

pub length-le_bytes : (count n : ℕ) → length (le_bytes count n) ≡ count
unfolding le_bytes
length-le_bytes zero n = refl
length-le_bytes (suc count) n = ap (λ k. suc k) (length-le_bytes count (n / 256))

le_value-le_bytes : (count n : ℕ) → n < 256 ^ count → n ≡ le_value (le_bytes count n)
unfolding le_bytes
le_value-le_bytes zero n h = omega arith
le_value-le_bytes (suc count) n h =
    let p : 256 ^ suc count ≡ 256 ^ count * 256 = pow-suc 256 count in
    let high : n / 256 < 256 ^ count = omega arith in
    let e = le_value-le_bytes count (n / 256) high in
    omega arith

pub number_read_back : (count n : ℕ) (rest : List ℕ) → n < 256 ^ count → number_at count (le_bytes count n ++ rest) ≡ Some (n, rest)
number_read_back count n rest h =
    number_again count (le_bytes count n ++ rest) n rest (record { digits = le_bytes count n; value = le_value-le_bytes count n h; stands = record { count_is = length-le_bytes count n; spelled = refl } })

pub len_read_back : (n : ℕ) (rest : List ℕ) → n < 2 ^ 64 → len_at (len_bytes n ++ rest) ≡ Some (n, rest)
unfolding len_bytes
len_read_back n rest bound =
    elim (cases_lt n 0xFB) [
      | inl h ↦ let b : ltb n 0xFB ≡ true = grind (arith, nat_tests) in rw (b, b)
      | inr h ↦
          let b : ltb n 0xFB ≡ false = grind (arith, nat_tests) in
          elim (cases_lt n 0x10000) [
            | inl k ↦
                let c : ltb n 0x10000 ≡ true = grind (arith, nat_tests) in
                rw (b, c) (number_read_back 2 n rest k)
            | inr k ↦
                let c : ltb n 0x10000 ≡ false = grind (arith, nat_tests) in
                elim (cases_lt n 0x1000000) [
                  | inl m ↦
                      let d : ltb n 0x1000000 ≡ true = grind (arith, nat_tests) in
                      rw (b, c, d) (number_read_back 3 n rest m)
                  | inr m ↦
                      let d : ltb n 0x1000000 ≡ false = grind (arith, nat_tests) in
                      rw (b, c, d) (number_read_back 8 n rest bound)
                ]
          ]
    ]

pub text_read_back : (text rest : List ℕ) → length text < 2 ^ 64 → text_at (text_bytes text ++ rest) ≡ Some (text, rest)
unfolding text_bytes
text_read_back text rest h =
    rw (append_assoc (len_bytes (length text)) text rest, len_read_back (length text) (text ++ rest) h) (bytes_again (length text) (text ++ rest) text rest (record { count_is = refl; spelled = refl }))

pub text0_read_back : (text rest : List ℕ) → text0_at (text0_bytes text ++ rest) ≡ Some (before_first (λ b. eqb b 0) text, rest)
unfolding text0_bytes
text0_read_back text rest =
    let part = before_first (λ b. eqb b 0) text in
    text0_again (text0_bytes text ++ rest) part rest (record { spelled = append_assoc part (0 ∷ []) rest; no_zero = (before_found text part refl).no_zero })
