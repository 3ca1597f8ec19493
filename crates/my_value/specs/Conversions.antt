-- What a value converts to.
use Rattle.std.specs.Prelude.{◌≡◌, ◌≢◌, ℕ, ℤ, pos, ◌^◌, ◌<◌, Bool, if◌then◌else◌, List, [], ◌∷◌, Option, Some, None, IsUtf8, FitsSigned}
use Rattle.std.specs.Int.{Width}
use Rattle.std.specs.Str.Parse.{IsNumeral, without_leading_sign, signed_digits_value}
use Rattle.my_value.specs.declared.value.Value.{Value}
use Rattle.my_value.specs.declared.value.Value.TheVariants.{NULL, Bytes, Int, UInt}

-- The text is a whole number: a plus or a minus, or none, then one decimal digit or more, and nothing else.
pub record IsDecimal (text : List ℕ) (z : ℤ) : Type 0 where
  pub numeral : IsNumeral 10 (without_leading_sign text)
  pub value : signed_digits_value 10 text ≡ z

-- The value is this whole number.
abbrev pub IsWhole : Value → ℤ → Type 0
IsWhole (Int n) z = n ≡ z
IsWhole (UInt n) z = pos n ≡ z
IsWhole (Bytes text) z = IsDecimal text z
IsWhole v z = ⊥

-- The value becomes something.
abbrev pub Becomes : {T : Type 0} → (Value → T → Type 0) → Value → Type 0
Becomes {T} becomes v = (x : T) × becomes v x

-- The value is this whole number, which has no sign and fits `bits` bits.
abbrev pub IsUnsigned : ℕ → Value → ℕ → Type 0
IsUnsigned bits v n = (n < 2 ^ bits) × IsWhole v (pos n)

-- The value is this whole number, which fits a signed number of that width.
abbrev pub IsSigned : Width → Value → ℤ → Type 0
IsSigned w v z = FitsSigned w z × IsWhole v z

abbrev pub truth_number : Bool → ℕ
truth_number b = if b then 1 else 0

-- The value is a truth value: the number or the one digit 0 or 1.
abbrev pub IsTruth : Value → Bool → Type 0
IsTruth (Int n) b = n ≡ pos (truth_number b)
IsTruth (UInt n) b = n ≡ truth_number b
IsTruth (Bytes text) b = text ≡ (if b then 49 else 48) ∷ []
IsTruth v b = ⊥

-- The value holds these bytes.
abbrev pub HoldsBytes : Value → List ℕ → Type 0
HoldsBytes v bytes = v ≡ Bytes bytes

-- The value holds this text.
abbrev pub HoldsText : Value → List ℕ → Type 0
HoldsText v text = (v ≡ Bytes text) × IsUtf8 text

-- The value is none, or it is one that becomes x.
abbrev pub IsOptional : {T : Type 0} → (Value → T → Type 0) → Value → Option T → Type 0
IsOptional becomes v None = v ≡ NULL
IsOptional becomes v (Some x) = (v ≢ NULL) × becomes v x
