-- The cells of a row of the text protocol as a server writes them.
-- MySQL internals, "Text Resultset": Text Resultset Row.
use Rattle.std.specs.Prelude.{ℕ, ◌<◌, ◌^◌, List, [], ◌∷◌, length, Option, Some, None}
use Rattle.my_value.specs.declared.value.Value.{Value}
use Rattle.my_value.specs.declared.value.Value.TheVariants.{NULL, Bytes}

-- the value that a written cell is read as
abbrev pub sent_value : Option (List ℕ) → Value
sent_value None = NULL
sent_value (Some text) = Bytes text

-- Each text is shorter than 2^64 bytes.
abbrev pub TextsFit : List (Option (List ℕ)) → Type 0
TextsFit [] = Unit {0}
TextsFit (None ∷ cells) = TextsFit cells
TextsFit (Some text ∷ cells) = (length text < 2 ^ 64) × TextsFit cells
