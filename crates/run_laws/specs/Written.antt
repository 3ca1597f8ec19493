-- What is printed of a value reads as the value in a script.
use Rattle.std.specs.Prelude.{ℕ, ◌≡◌, ◌<◌, ◌^◌, ℤ, pos, negsuc, Some}
use Rattle.hex.specs.Hex.{IsBytes}
use Rattle.my_value.specs.declared.value.Value.{Value}
use Rattle.my_value.specs.declared.value.Value.TheVariants.{NULL, Bytes, Int, UInt, FloatBits, DoubleBits, Date, Time}
use Rattle.my_script.specs.ValueText.{value_text}
use Rattle.my_script.specs.ValueWord.{value_of}

-- a number of 64 bits, with a sign
abbrev pub IsSigned : ℤ → Type 0
IsSigned (pos n) = n < 2 ^ 63
IsSigned (negsuc n) = n < 2 ^ 63

-- hours, minutes, seconds and microseconds
abbrev pub IsClock : ℕ → ℕ → ℕ → ℕ → Type 0
IsClock hour minute second micros = (hour < 2 ^ 8) × (minute < 2 ^ 8) × (second < 2 ^ 8) × (micros < 2 ^ 32)

-- the numbers and bytes are those of their types
abbrev pub IsTyped : Value → Type 0
IsTyped NULL = Unit {0}
IsTyped (Bytes bytes) = IsBytes bytes
IsTyped (Int z) = IsSigned z
IsTyped (UInt n) = n < 2 ^ 64
IsTyped (FloatBits bits) = bits < 2 ^ 32
IsTyped (DoubleBits bits) = bits < 2 ^ 64
IsTyped (Date year month day hour minute second micros) = (year < 2 ^ 16) × (month < 2 ^ 8) × (day < 2 ^ 8) × IsClock hour minute second micros
IsTyped (Time negative days hour minute second micros) = (days < 2 ^ 32) × IsClock hour minute second micros

-- Each value that is printed reads as itself.
abbrev pub ReadsAsItself : Type 0
ReadsAsItself = (v : Value) → IsTyped v → value_of (value_text v) ≡ Some v
