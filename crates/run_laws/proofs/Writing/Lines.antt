-- Texts that end at a mark which they lack.
use Rattle.std.proofs.Common.{◌≡◌, ◌≢◌, ◌<◌, ◌^◌, ◌/◌, ◌%◌, ◌==◌, ℕ, zero, suc, List, [], ◌∷◌, ◌++◌, length, get_or, codes, false, cond, Result, Ok, refl, sym, ap, ◌∙◌, subst, arith}
use Rattle.std.proofs.lemmas.Bool.Decides.{nat_tests}
use Rattle.std.proofs.lemmas.Fmt.{decimal_is_IsNumeral}
use Rattle.std.specs.Fmt.{decimal}
use Rattle.std.specs.Char.{digit_value}
use Rattle.std.specs.Str.Parse.{AllDigits, IsNumeral}
use Rattle.hex.specs.declared.error.FromHexError.{FromHexError}
use Rattle.hex.specs.Hex.{IsBytes, lower_digits, encode_with, encode_lower, decode_of}
use Rattle.hex.proofs.HexLemmas.{decode_of-encode_lower}
use Rattle.my_script.specs.Text.{hex_text}
use Rattle.run_laws.specs.Texts.{Lacks}

head_same : (x y : ℕ) (xs ys : List ℕ) → x ∷ xs ≡ y ∷ ys → x ≡ y
head_same x y xs ys e = cc

tail_same : (x y : ℕ) (xs ys : List ℕ) → x ∷ xs ≡ y ∷ ys → xs ≡ ys
tail_same x y xs ys e = cc

-- two texts up to a mark that both lack
pub mark_split : (mark : ℕ) (x y xs ys : List ℕ) → Lacks mark x → Lacks mark y → x ++ mark ∷ xs ≡ y ++ mark ∷ ys → (x ≡ y) × (xs ≡ ys)
mark_split mark [] [] xs ys l m e = (refl, tail_same mark mark xs ys e)
mark_split mark [] (b ∷ y) xs ys l m e = absurd (m.0 (sym (head_same mark b xs (y ++ mark ∷ ys) e)))
mark_split mark (a ∷ x) [] xs ys l m e = absurd (l.0 (head_same a mark (x ++ mark ∷ xs) ys e))
mark_split mark (a ∷ x) (b ∷ y) xs ys l m e =
    let rest = mark_split mark x y xs ys l.1 m.1 (tail_same a b (x ++ mark ∷ xs) (y ++ mark ∷ ys) e) in
    (ap (λ c. c ∷ x) (head_same a b (x ++ mark ∷ xs) (y ++ mark ∷ ys) e) ∙ ap (λ z. b ∷ z) rest.0, rest.1)

pub cancel_front : (word xs ys : List ℕ) → word ++ xs ≡ word ++ ys → xs ≡ ys
cancel_front [] xs ys e = e
cancel_front (w ∷ word) xs ys e = cancel_front word xs ys (tail_same w w (word ++ xs) (word ++ ys) e)

-- a number's digits
pub digits_lack : (mark : ℕ) → ((c : ℕ) → digit_value c < 10 → c ≢ mark) → (ds : List ℕ) → AllDigits 10 ds → Lacks mark ds
digits_lack mark f [] d = tt
digits_lack mark f (c ∷ cs) d = (f c d.0, digits_lack mark f cs d.1)

no_blank : (c : ℕ) → digit_value c < 10 → c ≢ 32
no_blank c d e = let no : digit_value 32 < 10 = subst (λ x. digit_value x < 10) e d in absurd (omega (arith, no))

pub decimal_lacks : (n : ℕ) → n < 2 ^ 64 → Lacks 32 (decimal n)
decimal_lacks n h = digits_lack 32 no_blank (decimal n) (decimal_is_IsNumeral n h).0.1

-- a text that begins with a number begins with a digit
pub digit_first : (ds xs ys : List ℕ) (c : ℕ) → IsNumeral 10 ds → ds ++ xs ≡ c ∷ ys → digit_value c < 10
digit_first [] xs ys c n e = absurd (omega (arith, n.0))
digit_first (d ∷ ds) xs ys c n e = subst (λ x. digit_value x < 10) (head_same d c (ds ++ xs) ys e) n.1.0

-- bytes in hexadecimal
at_lacks : (mark : ℕ) (xs : List ℕ) (k : ℕ) → Lacks mark xs → 0 ≢ mark → get_or xs k 0 ≢ mark
at_lacks mark [] k l z e = z e
at_lacks mark (x ∷ xs) zero l z e = l.0 e
at_lacks mark (x ∷ xs) (suc k) l z e = at_lacks mark xs k l.1 z e

table_lacks : Lacks 10 lower_digits
table_lacks = (λ e. omega (arith, e), (λ e. omega (arith, e), (λ e. omega (arith, e), (λ e. omega (arith, e), (λ e. omega (arith, e), (λ e. omega (arith, e), (λ e. omega (arith, e), (λ e. omega (arith, e), (λ e. omega (arith, e), (λ e. omega (arith, e), (λ e. omega (arith, e), (λ e. omega (arith, e), (λ e. omega (arith, e), (λ e. omega (arith, e), (λ e. omega (arith, e), (λ e. omega (arith, e), tt))))))))))))))))

encoded_lacks : (bytes : List ℕ) → Lacks 10 (encode_lower bytes)
unfolding encode_with
encoded_lacks [] = tt
encoded_lacks (b ∷ bytes) = (at_lacks 10 lower_digits (b / 16) table_lacks (λ e. omega (arith, e)), (at_lacks 10 lower_digits (b % 16) table_lacks (λ e. omega (arith, e)), encoded_lacks bytes))

some_text : (b : ℕ) (bytes : List ℕ) → hex_text (b ∷ bytes) ≡ encode_lower (b ∷ bytes)
some_text b bytes = let some : (length (b ∷ bytes) == 0) ≡ false = grind (arith, nat_tests) in ap (λ t. cond t (codes "-") (encode_lower (b ∷ bytes))) some

pub hex_lacks : (bytes : List ℕ) → Lacks 10 (hex_text bytes)
hex_lacks [] = (λ e. omega (arith, e), tt)
hex_lacks (b ∷ bytes) = subst (Lacks 10) (sym (some_text b bytes)) (encoded_lacks (b ∷ bytes))

abbrev decoded : List ℕ → Result (List ℕ) FromHexError
decoded xs = Ok xs

ok_same : (xs ys : List ℕ) → decoded xs ≡ decoded ys → xs ≡ ys
ok_same xs ys e = cc

none_some : (b : ℕ) (bytes : List ℕ) → codes "-" ≡ encode_lower (b ∷ bytes) → ⊥
unfolding encode_with
none_some b bytes e = omega (arith, ap length e)

pub hex_same : (xs ys : List ℕ) → IsBytes xs → IsBytes ys → hex_text xs ≡ hex_text ys → xs ≡ ys
hex_same [] [] a b e = refl
hex_same [] (y ∷ ys) a b e = absurd (none_some y ys (e ∙ some_text y ys))
hex_same (x ∷ xs) [] a b e = absurd (none_some x xs (sym e ∙ some_text x xs))
hex_same (x ∷ xs) (y ∷ ys) a b e =
    let same : encode_lower (x ∷ xs) ≡ encode_lower (y ∷ ys) = sym (some_text x xs) ∙ e ∙ some_text y ys in
    ok_same (x ∷ xs) (y ∷ ys) (sym (decode_of-encode_lower (x ∷ xs) a) ∙ ap decode_of same ∙ decode_of-encode_lower (y ∷ ys) b)
