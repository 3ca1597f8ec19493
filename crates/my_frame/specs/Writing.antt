-- How numbers and texts are written.
-- MySQL internals, "Protocol Data Types": Integer Types and String Types.
use Rattle.std.specs.Prelude.{ℕ, zero, suc, ◌/◌, ◌%◌, List, [], ◌∷◌, ◌++◌, length, ◌==◌, nat_lt, if◌then◌else◌}
use Rattle.std.specs.List.{before_first}

-- n in this number of bytes, the lowest first
unfoldable pub le_bytes : ℕ → ℕ → List ℕ
le_bytes zero n = []
le_bytes (suc k) n = n % 256 ∷ le_bytes k (n / 256)

-- n with its length, in the shortest form
unfoldable pub len_bytes : ℕ → List ℕ
len_bytes n =
    if nat_lt n 0xFB then n ∷ []
    else (if nat_lt n 0x10000 then 0xFC ∷ le_bytes 2 n
    else (if nat_lt n 0x1000000 then 0xFD ∷ le_bytes 3 n else 0xFE ∷ le_bytes 8 n))

-- a text after its length
unfoldable pub text_bytes : List ℕ → List ℕ
text_bytes text = len_bytes (length text) ++ text

-- a text that is cut before its first zero, and a zero
unfoldable pub text0_bytes : List ℕ → List ℕ
text0_bytes text = before_first (λ b. b == 0) text ++ 0 ∷ []

-- a text after one byte with its length
unfoldable pub short_bytes : List ℕ → List ℕ
short_bytes text = length text ∷ text
