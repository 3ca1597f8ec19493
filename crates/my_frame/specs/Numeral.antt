-- Whole numbers that a text writes in decimal digits, as Rust's `parse` reads them.
use Rattle.std.specs.Prelude.{ℕ, ◌^◌, ◌&&◌, Bool, List, length, nat_lt, Option, Some, None, if◌then◌else◌}
use Rattle.std.specs.List.{list_all}
use Rattle.std.specs.Char.{is_digit}
use Rattle.std.specs.Str.Parse.{digits_value, without_leading_plus}

-- one decimal digit or more, and nothing else
abbrev pub is_numeral : List ℕ → Bool
is_numeral digits = nat_lt 0 (length digits) && list_all (λ c. is_digit c 10) digits

-- the number that decimal digits write, where it is below 2 to the number of bits
abbrev pub numeral_value : ℕ → List ℕ → Option ℕ
numeral_value bits digits =
    if is_numeral digits && nat_lt (digits_value 10 digits) (2 ^ bits) then Some (digits_value 10 digits)
    else None

-- a whole number: a plus or none, and decimal digits
abbrev pub whole_number : ℕ → List ℕ → Option ℕ
whole_number bits text = numeral_value bits (without_leading_plus text)
