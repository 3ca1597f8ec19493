-- Values as a script writes them: as they are printed.
use Rattle.std.specs.Prelude.{ℕ, ◌==◌, List, codes, length, Option, Some, None, option_map, if◌then◌else◌}
use Rattle.std.specs.Int.{Width, w32, w64, from_be_bytes}
use Rattle.std.specs.Str.{bytes_eq}
use Rattle.my_frame.specs.Numbers.{◌>>=◌}
use Rattle.my_value.specs.declared.value.Value.{Value}
use Rattle.my_value.specs.declared.value.Value.TheVariants.{NULL, Bytes, Int, UInt, FloatBits, DoubleBits, Date, Time}
use Rattle.my_script.specs.declared.reading.value.Day.{Day}
use Rattle.my_script.specs.declared.reading.value.Clock.{Clock}
use Rattle.my_script.specs.declared.reading.value.NumberAnd.{NumberAnd}
use Rattle.my_script.specs.Cut.{first_of, rest_of}
use Rattle.my_script.specs.Number.{number_of, number_at_most, signed_of, pairs_of}

-- a number before a mark, and what follows the mark
pub record NumberWords : Type 0 where
  pub number : ℕ
  pub rest : List ℕ

unfoldable pub number_before : ℕ → ℕ → List ℕ → Option NumberWords
number_before mark most bytes = do
  number ← number_at_most most (first_of mark bytes)
  rest ← rest_of mark bytes
  Some (record { number = number; rest = rest })

abbrev pub number_view : NumberAnd → NumberWords
number_view n = record { number = n.number; rest = n.rest.now }

-- `y-m-d`
unfoldable pub day_of : List ℕ → Option Day
day_of bytes = do
  year ← number_before 45 65535 bytes
  month ← number_before 45 255 year.rest
  day ← number_at_most 255 month.rest
  Some (record { year = year.number; month = month.number; day = day })

-- `h:m:s.u`
unfoldable pub clock_of : List ℕ → Option Clock
clock_of bytes = do
  hour ← number_before 58 255 bytes
  minute ← number_before 58 255 hour.rest
  second ← number_before 46 255 minute.rest
  micros ← number_at_most 4294967295 second.rest
  Some (record { hour = hour.number; minute = minute.number; second = second.number; micros = micros })

-- `y-m-d_h:m:s.u`
unfoldable pub date_of : List ℕ → Option Value
date_of bytes = do
  day ← day_of (first_of 95 bytes)
  rest ← rest_of 95 bytes
  clock ← clock_of rest
  Some (Date day.year day.month day.day clock.hour clock.minute clock.second clock.micros)

-- `sign_days_h:m:s.u`, where 1 is the sign of a negative time and 0 that of another one
unfoldable pub time_of : List ℕ → Option Value
time_of bytes = do
  sign ← number_before 95 1 bytes
  days ← number_before 95 4294967295 sign.rest
  clock ← clock_of days.rest
  Some (Time (sign.number == 1) days.number clock.hour clock.minute clock.second clock.micros)

-- bits, the highest first, in as many bytes as they have
abbrev pub bits_in : Width → ℕ → List ℕ → Option ℕ
bits_in w count bytes = if length bytes == count then Some (from_be_bytes w bytes) else None

abbrev pub float_of : List ℕ → Option Value
float_of bytes = option_map FloatBits (bits_in w32 4 bytes)

abbrev pub double_of : List ℕ → Option Value
double_of bytes = option_map DoubleBits (bits_in w64 8 bytes)

-- values of a kind that is written in hexadecimal digits
abbrev pub digits_value : List ℕ → Option (List ℕ) → Option Value
digits_value kind None = None
digits_value kind (Some bytes) =
    if bytes_eq kind (codes "b") then Some (Bytes bytes)
    else if bytes_eq kind (codes "f") then float_of bytes
    else if bytes_eq kind (codes "d") then double_of bytes
    else None

-- a value of this kind, after its mark
abbrev pub value_with : List ℕ → Option (List ℕ) → Option Value
value_with kind None = if bytes_eq kind (codes "NULL") then Some NULL else None
value_with kind (Some rest) =
    if bytes_eq kind (codes "i") then option_map Int (signed_of rest)
    else if bytes_eq kind (codes "u") then option_map UInt (number_of rest)
    else if bytes_eq kind (codes "D") then date_of rest
    else if bytes_eq kind (codes "T") then time_of rest
    else digits_value kind (pairs_of rest)

-- `NULL`, `b:HEX`, `i:N`, `u:N`, `f:HEX`, `d:HEX`, `D:y-m-d_h:m:s.u`, `T:sign_days_h:m:s.u`
abbrev pub value_of : List ℕ → Option Value
value_of word = value_with (first_of 58 word) (rest_of 58 word)
