-- A whole number of a text is what parsing it gives, and what isn't text is none.
use Rattle.std.proofs.Common.{◌≡◌, ℕ, zero, suc, ◌<◌, ◌^◌, Bool, true, false, cond, eqb, List, [], ◌∷◌, drop, length, nat_lt, ◌&&◌, Some, None, Result, Ok, Err, if◌then◌else◌, refl, ap, arith}
use Rattle.std.specs.Bool.{Decides}
use Rattle.std.specs.Char.{digit_value, is_digit}
use Rattle.std.specs.List.{list_all}
use Rattle.std.specs.Result.{OkIff, result_ok}
use Rattle.std.specs.Str.{IsAscii}
use Rattle.std.specs.Str.Parse.{AllDigits, IsNumeral, digits_value, without_leading_plus}
use Rattle.std.proofs.lemmas.Bool.Decides.{Decides-and, Decides-ltb, nat_tests}
use Rattle.std.proofs.lemmas.Fmt.{IsAscii-from_digits}
use Rattle.my_frame.specs.Numeral.{is_numeral, whole_number}

-- a byte is a digit or it isn't
all_digits-Decides : (digits : List ℕ) → Decides (list_all (λ c. is_digit c 10) digits) (AllDigits 10 digits)
all_digits-Decides [] = (λ _. tt, λ _. refl)
all_digits-Decides (c ∷ digits) = Decides-and (is_digit c 10) (list_all (λ d. is_digit d 10) digits) (Decides-ltb (digit_value c) 10) (all_digits-Decides digits)

is_numeral-Decides : (digits : List ℕ) → Decides (is_numeral digits) (IsNumeral 10 digits)
is_numeral-Decides digits = Decides-and (nat_lt 0 (length digits)) (list_all (λ d. is_digit d 10) digits) (Decides-ltb 0 (length digits)) (all_digits-Decides digits)

value-Decides : (bits : ℕ) (digits : List ℕ) → Decides (is_numeral digits && nat_lt (digits_value 10 digits) (2 ^ bits)) (IsNumeral 10 digits × (digits_value 10 digits < 2 ^ bits))
value-Decides bits digits = Decides-and (is_numeral digits) (nat_lt (digits_value 10 digits) (2 ^ bits)) (is_numeral-Decides digits) (Decides-ltb (digits_value 10 digits) (2 ^ bits))

-- a result that is `Ok` exactly where a test holds
chosen : {E P : Type 0} → (test : Bool) (value : ℕ) (r : Result ℕ E) → Decides test P → OkIff r P value → result_ok r ≡ (if test then Some value else None)
chosen true value (Ok x) decides ok = ap Some ok.1
chosen true value (Err e) decides refused = absurd (refused (decides.0 refl))
chosen false value (Ok x) decides ok = cc (decides.1 ok.0)
chosen false value (Err e) decides refused = refl

pub whole-parsed : {E : Type 0} → (bits : ℕ) (text : List ℕ) (r : Result ℕ E) → OkIff r (IsNumeral 10 (without_leading_plus text) × (digits_value 10 (without_leading_plus text) < 2 ^ bits)) (digits_value 10 (without_leading_plus text)) → result_ok r ≡ whole_number bits text
whole-parsed bits text r parsed = chosen _ (digits_value 10 (without_leading_plus text)) r (value-Decides bits (without_leading_plus text)) parsed

-- a number is text
ascii_more : (b : ℕ) (bytes : List ℕ) → b < 128 → IsAscii bytes → IsAscii (b ∷ bytes)
ascii_more b bytes h all zero = h
ascii_more b bytes h all (suc i) = all i

plus_ascii : (b : ℕ) (bytes : List ℕ) (plus : Bool) → eqb b 43 ≡ plus → IsAscii (drop (cond plus 1 0) (b ∷ bytes)) → IsAscii (b ∷ bytes)
plus_ascii b bytes true e all = let h : b < 128 = grind (arith, nat_tests) in ascii_more b bytes h all
plus_ascii b bytes false e all = all

numeral_is_ascii : (text : List ℕ) → IsNumeral 10 (without_leading_plus text) → IsAscii text
numeral_is_ascii [] h = λ i. omega arith
numeral_is_ascii (b ∷ bytes) h = plus_ascii b bytes (eqb b 43) refl (IsAscii-from_digits (without_leading_plus (b ∷ bytes)) h.1)

none_if : {P : Type 0} → (test : Bool) (value : ℕ) → Decides test P → (P → ⊥) → None ≡ (if test then Some value else None)
none_if true value decides not = absurd (not (decides.0 refl))
none_if false value decides not = refl

-- so what isn't text is no number
pub no-number : (bits : ℕ) (text : List ℕ) → (IsAscii text → ⊥) → None ≡ whole_number bits text
no-number bits text not = none_if _ (digits_value 10 (without_leading_plus text)) (value-Decides bits (without_leading_plus text)) (λ v. not (numeral_is_ascii text v.0))
