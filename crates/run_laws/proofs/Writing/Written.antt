-- A value that is printed reads as itself.
use Rattle.std.proofs.Common.{◌≡◌, ◌≢◌, ◌<◌, ◌≤◌, ◌+◌, ◌-◌, ◌*◌, ◌^◌, ◌/◌, ◌%◌, ◌==◌, ◌&&◌, nat_le, nat_lt, ℕ, zero, suc, ℤ, pos, negsuc, List, [], ◌∷◌, ◌++◌, length, codes, option_map, Some, None, Bool, true, false, if◌then◌else◌, refl, ap, ◌∙◌, subst, arith}
use Rattle.std.proofs.lemmas.Bool.Decides.{nat_tests}
use Rattle.std.proofs.lemmas.Fmt.{decimal_by_steps, decimal_is_IsNumeral, decimal_nonempty}
use Rattle.std.proofs.lemmas.List.{append_assoc}
use Rattle.std.proofs.lemmas.Nat.{from_be_bytes-to_be_bytes_4, from_be_bytes-to_be_bytes_8}
use Rattle.std.specs.Char.{digit_value}
use Rattle.std.specs.Fmt.{decimal, signed_decimal}
use Rattle.std.specs.Int.{bytes_high_first, to_be_bytes, w32, w64}
use Rattle.std.specs.Result.{result_ok}
use Rattle.hex.specs.Hex.{IsBytes, encode_lower}
use Rattle.hex.proofs.HexLemmas.{decode_of-encode_lower}
use Rattle.my_value.specs.declared.value.Value.TheVariants.{NULL, Bytes, Int, UInt, FloatBits, DoubleBits, Date, Time}
use Rattle.my_script.specs.declared.reading.value.Day.{Day}
use Rattle.my_script.specs.declared.reading.value.Clock.{Clock}
use Rattle.my_script.specs.Cut.{first_of, rest_of}
use Rattle.my_script.specs.Number.{number_on, number_of, number_at_most, signed_of, pairs_of}
use Rattle.my_script.specs.TextParts.{marked, bytes_text}
use Rattle.my_script.specs.ValueText.{date_text, clock_text, bits_text}
use Rattle.my_script.specs.ValueWord.{number_before, day_of, clock_of, date_of, time_of, digits_value, value_of}
use Rattle.run_laws.specs.Texts.{Lacks}
use Rattle.run_laws.specs.Written.{IsClock, IsSigned, ReadsAsItself}
use Rattle.run_laws.proofs.Writing.Lines.{digits_lack}

-- digits, one after the other
some_same : (a n : ℕ) → Some a ≡ Some n → a ≡ n
some_same a n e = cc

none_is : (n : ℕ) → None ≡ Some n → ⊥
none_is n e = cc

on_more : (a : ℕ) (xs ys : List ℕ) (n : ℕ) → number_on a xs ≡ Some n → number_on a (xs ++ ys) ≡ number_on n ys
on_more a [] ys n e = ap (λ k. number_on k ys) (some_same a n e)
on_more a (x ∷ xs) ys n e = by_test (nat_le 48 x && nat_le x 57 && nat_lt (a * 10 + (x - 48)) (2 ^ 64)) (on_more (a * 10 + (x - 48)) xs ys n) e
  where
    by_test : (t : Bool) → (number_on (a * 10 + (x - 48)) xs ≡ Some n → number_on (a * 10 + (x - 48)) (xs ++ ys) ≡ number_on n ys) → (if t then number_on (a * 10 + (x - 48)) xs else None) ≡ Some n → (if t then number_on (a * 10 + (x - 48)) (xs ++ ys) else None) ≡ number_on n ys
    by_test true more f = more f
    by_test false more f = absurd (none_is n f)

digit_test : (a x : ℕ) → x < 10 → a * 10 + x < 2 ^ 64 → (nat_le 48 (48 + x) && nat_le (48 + x) 57 && nat_lt (a * 10 + (48 + x - 48)) (2 ^ 64)) ≡ true
digit_test a x h k = grind (arith, nat_tests)

digit_on : (a x n : ℕ) → x < 10 → n ≡ a * 10 + x → n < 2 ^ 64 → number_on a ((48 + x) ∷ []) ≡ Some n
digit_on a x n h e k =
    let same : a * 10 + (48 + x - 48) ≡ n = omega (arith, e) in
    rw (digit_test a x h (omega (arith, e, k))) (ap Some same)

number_back : (n : ℕ) → n < 2 ^ 64 → number_on 0 (decimal n) ≡ Some n
number_back n h = decimal_by_steps (λ m ds. m < 2 ^ 64 → number_on 0 ds ≡ Some m) one more n h h
  where
    one : (m : ℕ) → m < 10 → m < 2 ^ 64 → number_on 0 ((48 + m) ∷ []) ≡ Some m
    one m few k = digit_on 0 m m few (omega arith) k

    more : (m : ℕ) (ds : List ℕ) → 10 ≤ m → (m / 10 < 2 ^ 64 → number_on 0 ds ≡ Some (m / 10)) → m < 2 ^ 64 → number_on 0 (ds ++ ((48 + m % 10) ∷ [])) ≡ Some m
    more m ds ten before k =
        let less : m / 10 < 2 ^ 64 = omega (arith, k) in
        on_more 0 ds ((48 + m % 10) ∷ []) (m / 10) (before less) ∙ digit_on (m / 10) (m % 10) m (omega arith) (omega arith) k

of_digits : (ds : List ℕ) (n : ℕ) → 0 < length ds → number_on 0 ds ≡ Some n → number_of ds ≡ Some n
of_digits [] n h e = absurd (omega (arith, h))
of_digits (d ∷ ds) n h e = e

is_number : (n : ℕ) → n < 2 ^ 64 → number_of (decimal n) ≡ Some n
is_number n h = of_digits (decimal n) n (decimal_nonempty n h) (number_back n h)

is_at_most : (most n : ℕ) → n ≤ most → n < 2 ^ 64 → number_at_most most (decimal n) ≡ Some n
is_at_most most n few h =
    let test : nat_le n most ≡ true = grind (arith, nat_tests) in
    rw (is_number n h, test) refl

-- up to a mark
same_mark : (mark : ℕ) → (mark == mark) ≡ true
same_mark mark = grind (arith, nat_tests)

other_mark : (x mark : ℕ) → x ≢ mark → (x == mark) ≡ false
other_mark x mark ne = grind (arith, nat_tests)

first_back : (mark : ℕ) (xs rest : List ℕ) → Lacks mark xs → first_of mark (xs ++ mark ∷ rest) ≡ xs
first_back mark [] rest l = rw (same_mark mark) refl
first_back mark (x ∷ xs) rest l = rw (other_mark x mark l.0) (ap (λ ys. x ∷ ys) (first_back mark xs rest l.1))

rest_back : (mark : ℕ) (xs rest : List ℕ) → Lacks mark xs → rest_of mark (xs ++ mark ∷ rest) ≡ Some rest
rest_back mark [] rest l = rw (same_mark mark) refl
rest_back mark (x ∷ xs) rest l = rw (other_mark x mark l.0) (rest_back mark xs rest l.1)

-- a mark that is no digit
abbrev NoDigit : ℕ → Type 0
NoDigit mark = (c : ℕ) → digit_value c < 10 → c ≢ mark

not_digit : (mark : ℕ) → 10 ≤ digit_value mark → NoDigit mark
not_digit mark h c d e = let no : digit_value mark < 10 = subst (λ x. digit_value x < 10) e d in absurd (omega (arith, no, h))

minus : NoDigit 45
minus = not_digit 45 (omega arith)

point : NoDigit 46
point = not_digit 46 (omega arith)

colon : NoDigit 58
colon = not_digit 58 (omega arith)

blank : NoDigit 95
blank = not_digit 95 (omega arith)

number_lacks : (mark n : ℕ) → NoDigit mark → n < 2 ^ 64 → Lacks mark (decimal n)
number_lacks mark n free h = digits_lack mark free (decimal n) (decimal_is_IsNumeral n h).0.1

before_back : (mark most n : ℕ) (rest : List ℕ) → NoDigit mark → n ≤ most → n < 2 ^ 64 → number_before mark most (decimal n ++ mark ∷ rest) ≡ Some (record { number = n; rest = rest })
unfolding number_before
before_back mark most n rest free few h =
    rw (first_back mark (decimal n) rest (number_lacks mark n free h), is_at_most most n few h, rest_back mark (decimal n) rest (number_lacks mark n free h)) refl

-- hours, minutes, seconds and microseconds
clock_shape : (h m s u : List ℕ) → ((h ++ 58 ∷ m) ++ 58 ∷ s) ++ 46 ∷ u ≡ h ++ 58 ∷ (m ++ 58 ∷ (s ++ 46 ∷ u))
clock_shape h m s u = append_assoc (h ++ 58 ∷ m) (58 ∷ s) (46 ∷ u) ∙ append_assoc h (58 ∷ m) (58 ∷ (s ++ 46 ∷ u))

clock_is : (bytes after_hour after_minute after_second : List ℕ) (hour minute second micros : ℕ) → number_before 58 255 bytes ≡ Some (record { number = hour; rest = after_hour }) → number_before 58 255 after_hour ≡ Some (record { number = minute; rest = after_minute })
    → number_before 46 255 after_minute ≡ Some (record { number = second; rest = after_second }) → number_at_most 4294967295 after_second ≡ Some micros → clock_of bytes ≡ Some (record { hour = hour; minute = minute; second = second; micros = micros })
unfolding clock_of
clock_is bytes after_hour after_minute after_second hour minute second micros a b c d = rw (a, b, c, d) refl

clock_back : (hour minute second micros : ℕ) → IsClock hour minute second micros → clock_of (((decimal hour ++ 58 ∷ decimal minute) ++ 58 ∷ decimal second) ++ 46 ∷ decimal micros) ≡ Some (record { hour = hour; minute = minute; second = second; micros = micros })
clock_back hour minute second micros t =
    ap clock_of (clock_shape (decimal hour) (decimal minute) (decimal second) (decimal micros))
    ∙ clock_is _ (decimal minute ++ 58 ∷ (decimal second ++ 46 ∷ decimal micros)) (decimal second ++ 46 ∷ decimal micros) (decimal micros) hour minute second micros
    (before_back 58 255 hour (decimal minute ++ 58 ∷ (decimal second ++ 46 ∷ decimal micros)) colon (omega (arith, t.0)) (omega (arith, t.0)))
    (before_back 58 255 minute (decimal second ++ 46 ∷ decimal micros) colon (omega (arith, t.1)) (omega (arith, t.1)))
    (before_back 46 255 second (decimal micros) point (omega (arith, t.2)) (omega (arith, t.2)))
    (is_at_most 4294967295 micros (omega (arith, t.3)) (omega (arith, t.3)))

day_is : (bytes after_year after_month : List ℕ) (year month day : ℕ) → number_before 45 65535 bytes ≡ Some (record { number = year; rest = after_year }) → number_before 45 255 after_year ≡ Some (record { number = month; rest = after_month })
    → number_at_most 255 after_month ≡ Some day → day_of bytes ≡ Some (record { year = year; month = month; day = day })
unfolding day_of
day_is bytes after_year after_month year month day a b c = rw (a, b, c) refl

day_back : (year month day : ℕ) → year < 2 ^ 16 → month < 2 ^ 8 → day < 2 ^ 8 → day_of ((decimal year ++ 45 ∷ decimal month) ++ 45 ∷ decimal day) ≡ Some (record { year = year; month = month; day = day })
day_back year month day y m d =
    ap day_of (append_assoc (decimal year) (45 ∷ decimal month) (45 ∷ decimal day))
    ∙ day_is _ (decimal month ++ 45 ∷ decimal day) (decimal day) year month day
    (before_back 45 65535 year (decimal month ++ 45 ∷ decimal day) minus (omega (arith, y)) (omega (arith, y)))
    (before_back 45 255 month (decimal day) minus (omega (arith, m)) (omega (arith, m)))
    (is_at_most 255 day (omega (arith, d)) (omega (arith, d)))

lacks_both : (mark : ℕ) (xs ys : List ℕ) → Lacks mark xs → Lacks mark ys → Lacks mark (xs ++ ys)
lacks_both mark [] ys l m = m
lacks_both mark (x ∷ xs) ys l m = (l.0, lacks_both mark xs ys l.1 m)

day_lacks : (year month day : ℕ) → year < 2 ^ 16 → month < 2 ^ 8 → day < 2 ^ 8 → Lacks 95 ((decimal year ++ 45 ∷ decimal month) ++ 45 ∷ decimal day)
day_lacks year month day y m d =
    lacks_both 95 (decimal year ++ 45 ∷ decimal month) (45 ∷ decimal day)
    (lacks_both 95 (decimal year) (45 ∷ decimal month) (number_lacks 95 year blank (omega (arith, y))) (λ e. omega (arith, e), number_lacks 95 month blank (omega (arith, m))))
    (λ e. omega (arith, e), number_lacks 95 day blank (omega (arith, d)))

date_is : (bytes word rest : List ℕ) (day : Day) (clock : Clock) → first_of 95 bytes ≡ word → day_of word ≡ Some day → rest_of 95 bytes ≡ Some rest → clock_of rest ≡ Some clock
    → date_of bytes ≡ Some (Date day.year day.month day.day clock.hour clock.minute clock.second clock.micros)
unfolding date_of
date_is bytes word rest day clock a b c d = rw (a, b, c, d) refl

date_back : (year month day hour minute second micros : ℕ) → year < 2 ^ 16 → month < 2 ^ 8 → day < 2 ^ 8 → IsClock hour minute second micros → date_of (date_text year month day ++ clock_text hour minute second micros) ≡ Some (Date year month day hour minute second micros)
unfolding date_text clock_text
date_back year month day hour minute second micros y m d t =
    let word = (decimal year ++ 45 ∷ decimal month) ++ 45 ∷ decimal day in
    let rest = ((decimal hour ++ 58 ∷ decimal minute) ++ 58 ∷ decimal second) ++ 46 ∷ decimal micros in
    let lacks = day_lacks year month day y m d in
    date_is (word ++ 95 ∷ rest) word rest _ _ (first_back 95 word rest lacks) (day_back year month day y m d) (rest_back 95 word rest lacks) (clock_back hour minute second micros t)

time_is : (bytes more rest : List ℕ) (sign days : ℕ) (clock : Clock) → number_before 95 1 bytes ≡ Some (record { number = sign; rest = more }) → number_before 95 4294967295 more ≡ Some (record { number = days; rest = rest }) → clock_of rest ≡ Some clock
    → time_of bytes ≡ Some (Time (sign == 1) days clock.hour clock.minute clock.second clock.micros)
unfolding time_of
time_is bytes more rest sign days clock a b c = rw (a, b, c) refl

time_back : (sign days hour minute second micros : ℕ) → sign ≤ 1 → days < 2 ^ 32 → IsClock hour minute second micros → time_of (decimal sign ++ marked 95 days ++ clock_text hour minute second micros) ≡ Some (Time (sign == 1) days hour minute second micros)
unfolding clock_text
time_back sign days hour minute second micros one d t =
    let rest = ((decimal hour ++ 58 ∷ decimal minute) ++ 58 ∷ decimal second) ++ 46 ∷ decimal micros in
    ap time_of (append_assoc (decimal sign) (95 ∷ decimal days) (95 ∷ rest))
    ∙ time_is (decimal sign ++ 95 ∷ (decimal days ++ 95 ∷ rest)) (decimal days ++ 95 ∷ rest) rest sign days _ (before_back 95 1 sign (decimal days ++ 95 ∷ rest) blank one (omega (arith, one))) (before_back 95 4294967295 days rest blank (omega (arith, d)) (omega (arith, d))) (clock_back hour minute second micros t)

-- signed numbers
positive_back : (ds : List ℕ) (n : ℕ) → 0 < length ds → Lacks 45 ds → number_at_most (2 ^ 63 - 1) ds ≡ Some n → signed_of ds ≡ Some (pos n)
positive_back [] n h l e = absurd (omega (arith, h))
positive_back (d ∷ ds) n h l e = rw (other_mark d 45 l.0, e) refl

signed_back : (z : ℤ) → IsSigned z → signed_of (signed_decimal z) ≡ Some z
signed_back (pos n) h = positive_back (decimal n) n (decimal_nonempty n (omega (arith, h))) (number_lacks 45 n minus (omega (arith, h))) (is_at_most (2 ^ 63 - 1) n (omega (arith, h)) (omega (arith, h)))
signed_back (negsuc n) h = rw (is_at_most (2 ^ 63) (suc n) (omega (arith, h)) (omega (arith, h))) refl

-- bytes
pairs_back : (bytes : List ℕ) → IsBytes bytes → pairs_of (encode_lower bytes) ≡ Some bytes
pairs_back bytes t = ap (λ r. result_ok r) (decode_of-encode_lower bytes t)

high_first_are : (k n : ℕ) → IsBytes (bytes_high_first k n)
high_first_are zero n i = omega arith
high_first_are (suc zero) n zero = omega arith
high_first_are (suc (suc k)) n zero = omega arith
high_first_are (suc k) n (suc i) = high_first_are k n i

float_back : (n : ℕ) → n < 2 ^ 32 → value_of (bits_text 102 (to_be_bytes w32 n)) ≡ Some (FloatBits n)
unfolding bits_text
float_back n h =
    ap (λ o. digits_value (codes "f") o) (pairs_back (to_be_bytes w32 n) (high_first_are 4 n))
    ∙ ap (λ m. Some (FloatBits m)) (from_be_bytes-to_be_bytes_4 n h)

double_back : (n : ℕ) → n < 2 ^ 64 → value_of (bits_text 100 (to_be_bytes w64 n)) ≡ Some (DoubleBits n)
unfolding bits_text
double_back n h =
    ap (λ o. digits_value (codes "d") o) (pairs_back (to_be_bytes w64 n) (high_first_are 8 n))
    ∙ ap (λ m. Some (DoubleBits m)) (from_be_bytes-to_be_bytes_8 n h)

bytes_back : (bytes : List ℕ) → IsBytes bytes → value_of (bytes_text bytes) ≡ Some (Bytes bytes)
unfolding bytes_text
bytes_back bytes t = ap (λ o. digits_value (codes "b") o) (pairs_back bytes t)

pub reads_as_itself : ReadsAsItself
reads_as_itself NULL t = refl
reads_as_itself (Bytes bytes) t = bytes_back bytes t
reads_as_itself (Int z) t = ap (option_map Int) (signed_back z t)
reads_as_itself (UInt n) t = ap (option_map UInt) (is_number n t)
reads_as_itself (FloatBits bits) t = float_back bits t
reads_as_itself (DoubleBits bits) t = double_back bits t
reads_as_itself (Date year month day hour minute second micros) t = date_back year month day hour minute second micros t.0 t.1 t.2 t.3
reads_as_itself (Time true days hour minute second micros) t = time_back 1 days hour minute second micros (omega arith) t.0 t.1
reads_as_itself (Time false days hour minute second micros) t = time_back 0 days hour minute second micros (omega arith) t.0 t.1
