-- Numbers and bytes as text.
use Rattle.std.specs.Prelude.{ℕ, List, ◌∷◌, ◌++◌, codes}
use Rattle.std.specs.Fmt.{decimal}
use Rattle.hex.specs.Hex.{encode_lower}

-- a number after a mark
abbrev pub marked : ℕ → ℕ → List ℕ
marked mark n = mark ∷ decimal n

-- bytes, in hexadecimal digits
unfoldable pub bytes_text : List ℕ → List ℕ
bytes_text bytes = codes "b:" ++ encode_lower bytes
