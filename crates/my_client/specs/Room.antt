-- The room that a tape keeps free.
use Rattle.std.specs.Prelude.{ℕ, Option, Some, None}

-- one end is to be noted while a call is open
abbrev pub open_count : {X : Type 0} → Option X → ℕ
open_count None = 0
open_count (Some x) = 1
