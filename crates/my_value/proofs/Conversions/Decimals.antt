-- A numeral is text.
use Rattle.std.proofs.Common.{◌≡◌, ℕ, zero, suc, ◌<◌, List, [], ◌∷◌, drop, Bool, true, false, cond, eqb, refl, arith}
use Rattle.std.proofs.lemmas.Bool.Decides.{nat_tests}
use Rattle.std.specs.Str.{IsAscii}
use Rattle.std.specs.Str.Parse.{IsNumeral, without_leading_sign}
use Rattle.std.proofs.lemmas.Fmt.{IsAscii-from_digits}

ascii_more : (b : ℕ) (bytes : List ℕ) → b < 128 → IsAscii bytes → IsAscii (b ∷ bytes)
ascii_more b bytes h all zero = h
ascii_more b bytes h all (suc i) = all i

plus_ascii : (b : ℕ) (bytes : List ℕ) (plus : Bool) → eqb b 43 ≡ plus → IsAscii (drop (cond plus 1 0) (b ∷ bytes)) → IsAscii (b ∷ bytes)
plus_ascii b bytes true e all = let h : b < 128 = grind (arith, nat_tests) in ascii_more b bytes h all
plus_ascii b bytes false e all = all

sign_ascii : (b : ℕ) (bytes : List ℕ) (minus : Bool) → eqb b 45 ≡ minus → IsAscii (cond minus bytes (drop (cond (eqb b 43) 1 0) (b ∷ bytes))) → IsAscii (b ∷ bytes)
sign_ascii b bytes true e all = let h : b < 128 = grind (arith, nat_tests) in ascii_more b bytes h all
sign_ascii b bytes false e all = plus_ascii b bytes (eqb b 43) refl all

pub numeral_is_ascii : (text : List ℕ) → IsNumeral 10 (without_leading_sign text) → IsAscii text
numeral_is_ascii [] h = λ i. omega arith
numeral_is_ascii (b ∷ bytes) h = sign_ascii b bytes (eqb b 45) refl (IsAscii-from_digits (without_leading_sign (b ∷ bytes)) h.1)
