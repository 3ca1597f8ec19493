-- How values are sent as parameters.
-- MySQL internals, "COM_STMT_EXECUTE", "Binary Protocol Value" and "NULL-Bitmap".
use Rattle.std.specs.Prelude.{ℕ, Bool, not, ◌&&◌, List, [], ◌∷◌, ◌++◌, length, take, ◌==◌, sum_by, if◌then◌else◌}
use Rattle.std.specs.Int.{w64, cast_unsigned}
use Rattle.my_frame.specs.Writing.{le_bytes, text_bytes}
use Rattle.my_value.specs.declared.value.Value.{Value}
use Rattle.my_value.specs.declared.value.Value.TheVariants.{NULL, Bytes, Int, UInt, FloatBits, DoubleBits, Date, Time}
use Rattle.my_command.specs.declared.statement.ParameterType.{ParameterType}

-- the type of a parameter by its value: LONGLONG 8, with flag 0x80 where it has no sign, VAR_STRING 253, DATETIME 12,
-- TIME 11, NULL 6, FLOAT 4, DOUBLE 5
abbrev pub type_of : Value → ParameterType
type_of NULL = record { kind = 6; flag = 0 }
type_of (Bytes text) = record { kind = 253; flag = 0 }
type_of (Int n) = record { kind = 8; flag = 0 }
type_of (UInt n) = record { kind = 8; flag = 128 }
type_of (FloatBits bits) = record { kind = 4; flag = 0 }
type_of (DoubleBits bits) = record { kind = 5; flag = 0 }
type_of (Date year month day hour minute second micros) = record { kind = 12; flag = 0 }
type_of (Time negative days hours minutes seconds micros) = record { kind = 11; flag = 0 }

-- all parts of a date: year, month, day, hour, minute, second, microseconds
abbrev pub date_parts : ℕ → ℕ → ℕ → ℕ → ℕ → ℕ → ℕ → List ℕ
date_parts year month day hour minute second micros =
    le_bytes 2 year ++ (month ∷ day ∷ hour ∷ minute ∷ second ∷ le_bytes 4 micros)

-- how many bytes of its parts are sent: the least of 0, 4, 7 and 11 after which all is 0
abbrev pub date_len : ℕ → ℕ → ℕ → ℕ → ℕ → ℕ → ℕ → ℕ
date_len year month day hour minute second micros =
    if not (micros == 0) then 11
    else (if not (((hour == 0) && (minute == 0)) && (second == 0)) then 7
    else (if not (((year == 0) && (month == 0)) && (day == 0)) then 4 else 0))

abbrev pub sign_number : Bool → ℕ
sign_number negative = if negative then 1 else 0

-- all parts of a time: sign, days, hours, minutes, seconds, microseconds
abbrev pub time_parts : Bool → ℕ → ℕ → ℕ → ℕ → ℕ → List ℕ
time_parts negative days hours minutes seconds micros =
    sign_number negative ∷ (le_bytes 4 days ++ (hours ∷ minutes ∷ seconds ∷ le_bytes 4 micros))

-- how many bytes of its parts are sent: the least of 0, 8 and 12 after which all is 0
abbrev pub time_len : Bool → ℕ → ℕ → ℕ → ℕ → ℕ → ℕ
time_len negative days hours minutes seconds micros =
    if not (micros == 0) then 12
    else (if (not negative && (days == 0)) && (((hours == 0) && (minutes == 0)) && (seconds == 0)) then 0 else 8)

-- the first `len` parts after their number
abbrev pub sized_bytes : ℕ → List ℕ → List ℕ
sized_bytes len parts = len ∷ take len parts

-- a value as it is sent
abbrev pub value_bytes : Value → List ℕ
value_bytes NULL = []
value_bytes (Bytes text) = text_bytes text
value_bytes (Int n) = le_bytes 8 (cast_unsigned w64 n)
value_bytes (UInt n) = le_bytes 8 n
value_bytes (FloatBits bits) = le_bytes 4 bits
value_bytes (DoubleBits bits) = le_bytes 8 bits
value_bytes (Date year month day hour minute second micros) =
    sized_bytes (date_len year month day hour minute second micros)
    (date_parts year month day hour minute second micros)
value_bytes (Time negative days hours minutes seconds micros) =
    sized_bytes (time_len negative days hours minutes seconds micros)
    (time_parts negative days hours minutes seconds micros)

-- how many bytes the values take
abbrev pub values_len : List Value → ℕ
values_len values = sum_by (λ v. length (value_bytes v)) values
