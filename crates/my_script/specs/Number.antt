-- Numbers and bytes in a script.
use Rattle.std.specs.Prelude.{ℕ, ℤ, pos, neg_ℤ, option_map, ◌+◌, ◌-◌, ◌*◌, ◌^◌, ◌==◌, ◌&&◌, nat_lt, nat_le, List, [], ◌∷◌, codes, Option, Some, None, if◌then◌else◌}
use Rattle.std.specs.Str.{bytes_eq}
use Rattle.std.specs.Result.{result_ok}
use Rattle.hex.specs.Hex.{decode_of}

-- the number that decimal digits give after this one, below 2^64
abbrev pub number_on : ℕ → List ℕ → Option ℕ
number_on n [] = Some n
number_on n (b ∷ bytes) = if nat_le 48 b && nat_le b 57 && nat_lt (n * 10 + (b - 48)) (2 ^ 64) then number_on (n * 10 + (b - 48)) bytes else None

-- a number in decimal digits, below 2^64; a word of no digits is none
abbrev pub number_of : List ℕ → Option ℕ
number_of [] = None
number_of (b ∷ bytes) = number_on 0 (b ∷ bytes)

abbrev pub at_most : ℕ → Option ℕ → Option ℕ
at_most most None = None
at_most most (Some n) = if nat_le n most then Some n else None

-- a number in decimal digits that is at most this one
abbrev pub number_at_most : ℕ → List ℕ → Option ℕ
number_at_most most word = at_most most (number_of word)

-- a number in decimal digits, after a minus or none, that 64 bits hold
abbrev pub signed_of : List ℕ → Option ℤ
signed_of [] = None
signed_of (b ∷ bytes) =
    if b == 45
    then option_map (λ n. neg_ℤ (pos n)) (number_at_most (2 ^ 63) bytes)
    else option_map (λ n. pos n) (number_at_most (2 ^ 63 - 1) (b ∷ bytes))

-- bytes as pairs of hexadecimal digits, of which there may be none
abbrev pub pairs_of : List ℕ → Option (List ℕ)
pairs_of word = result_ok (decode_of word)

-- bytes as pairs of hexadecimal digits in either case; `-` stands for no bytes, and no digits at all for nothing
abbrev pub bytes_of : List ℕ → Option (List ℕ)
bytes_of [] = None
bytes_of (b ∷ word) = if bytes_eq (b ∷ word) (codes "-") then Some [] else pairs_of (b ∷ word)
