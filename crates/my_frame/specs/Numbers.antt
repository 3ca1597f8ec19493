-- Numbers and texts in a packet: as relations between a value, the bytes that begin with it and the bytes after it, and
-- as functions that read.
-- MySQL internals, "Protocol Data Types": Integer Types (FixedLengthInteger, LengthEncodedInteger) and String Types
-- (FixedLengthString, NulTerminatedString, LengthEncodedString).
use Rattle.std.specs.Prelude.{◌≡◌, ◌≢◌, ℕ, ◌+◌, ◌*◌, ◌<◌, ◌⊎◌, List, [], ◌∷◌, ◌++◌, length, take, drop, All, Option, Some, None, position, nat_lt, ◌==◌, if◌then◌else◌}

-- the number that these bytes spell, the lowest first
abbrev pub le_value : List ℕ → ℕ
le_value [] = 0
le_value (b ∷ bytes) = b + 256 * le_value bytes

-- The bytes begin with the part, which has `count` bytes.
pub record IsBytes (count : ℕ) (bytes part rest : List ℕ) : Type 0 where
  pub count_is : length part ≡ count
  pub spelled : bytes ≡ part ++ rest

-- The bytes begin with the number n in `count` bytes.
pub record IsNumber (count : ℕ) (bytes : List ℕ) (n : ℕ) (rest : List ℕ) : Type 0 where
  pub digits : List ℕ
  pub value : n ≡ le_value digits
  pub stands : IsBytes count bytes digits rest

-- The bytes begin with the length-encoded number n, in one, three, four or nine bytes.
abbrev pub IsLen : List ℕ → ℕ → List ℕ → Type 0
IsLen [] n rest = ⊥
IsLen (head ∷ bytes) n rest =
    ((head < 0xFB) × (n ≡ head) × (bytes ≡ rest))
    ⊎ (((head ≡ 0xFC) × IsNumber 2 bytes n rest)
    ⊎ (((head ≡ 0xFD) × IsNumber 3 bytes n rest) ⊎ ((head ≡ 0xFE) × IsNumber 8 bytes n rest)))

-- The bytes begin with a text after its length.
pub record IsText (bytes text rest : List ℕ) : Type 0 where
  pub len_is : IsLen bytes (length text) (text ++ rest)

-- The bytes begin with a text without a zero, and a zero.
pub record IsText0 (bytes text rest : List ℕ) : Type 0 where
  pub spelled : bytes ≡ text ++ 0 ∷ rest
  pub no_zero : All (λ b. b ≢ 0) text

-- The bytes begin with a part without a zero, which is all of them or ends at a zero.
pub record IsBeforeZero (bytes part : List ℕ) : Type 0 where
  pub no_zero : All (λ b. b ≢ 0) part
  pub ends : (bytes ≡ part) ⊎ ((rest : List ℕ) × (bytes ≡ part ++ 0 ∷ rest))

infixl 10 ◌>>=◌
-- the second read, after the first
abbrev pub ◌>>=◌ : {A B : Type 0} → Option A → (A → Option B) → Option B
None >>= f = None
(Some x) >>= f = f x

-- what is read, and the bytes after it
abbrev pub bytes_at : ℕ → List ℕ → Option (List ℕ × List ℕ)
bytes_at count bytes = if nat_lt (length bytes) count then None else Some (take count bytes, drop count bytes)

abbrev pub number_at : ℕ → List ℕ → Option (ℕ × List ℕ)
number_at count bytes =
    if nat_lt (length bytes) count then None else Some (le_value (take count bytes), drop count bytes)

abbrev pub len_at : List ℕ → Option (ℕ × List ℕ)
len_at [] = None
len_at (head ∷ bytes) =
    if nat_lt head 0xFB then Some (head, bytes)
    else (if head == 0xFC then number_at 2 bytes
    else (if head == 0xFD then number_at 3 bytes else (if head == 0xFE then number_at 8 bytes else None)))

abbrev pub text_at : List ℕ → Option (List ℕ × List ℕ)
text_at bytes = do
  len ← len_at bytes
  bytes_at len.0 len.1

-- the parts before and after a place
abbrev pub cut_at : List ℕ → Option ℕ → Option (List ℕ × List ℕ)
cut_at bytes None = None
cut_at bytes (Some k) = Some (take k bytes, drop (k + 1) bytes)

abbrev pub text0_at : List ℕ → Option (List ℕ × List ℕ)
text0_at bytes = cut_at bytes (position (λ b. b == 0) bytes)

-- the bytes after this head
abbrev pub head_at : ℕ → List ℕ → Option (List ℕ)
head_at head [] = None
head_at head (first ∷ rest) = if first == head then Some rest else None
