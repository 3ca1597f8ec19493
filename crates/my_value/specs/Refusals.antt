-- How a value or a row that doesn't convert is given back.
use Rattle.std.specs.Prelude.{◌≡◌, ⊤}
use Rattle.my_value.specs.declared.value.Value as value
use Rattle.my_value.specs.declared.conversion.FromValueError.{FromValueError}
use Rattle.my_value.specs.declared.conversion.FromValueError.TheVariants as value_errors

-- The value that was passed in is given back exactly where it doesn't convert; out of memory may come at any time.
abbrev pub Refuses : Type 0 → value.Value → FromValueError → Type 0
Refuses converts v (value_errors.Value kept) = (kept ≡ v) × (converts → ⊥)
Refuses converts v value_errors.NoMemory = ⊤
