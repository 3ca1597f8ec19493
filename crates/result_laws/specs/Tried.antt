-- Values that the definitions of this crate accept, and values that they refute.
use Rattle.std.specs.Prelude.{◌≡◌, Bool, true, false}
use Rattle.std.specs.declared.result.Result.TheVariants.{Ok, Err}
use Rattle.my_reading.specs.declared.error.Error.TheVariants as errors
use Rattle.my_reading.specs.declared.error.ServerError.{ServerError}
use Rattle.my_conn.specs.Conn.{ConnSeen}
use Rattle.result_laws.specs.Closing.{ClosesBy, RestsAt, is_closed}

-- At a connection that is open: a server's error leaves it so. It isn't closed by that, nor by a call that was done; and it
-- isn't open after memory ran out.
abbrev pub ClosingIsTried : Type 0 → Type 0
ClosingIsTried L = (c d : ConnSeen L) (e : ServerError) → RestsAt c → is_closed c ≡ false → is_closed d ≡ true
    → ClosesBy {A = Bool} c c (Err (errors.Server e))
    × (ClosesBy {A = Bool} c d (Err (errors.Server e)) → ⊥)
    × (ClosesBy {A = Bool} c d (Ok true) → ⊥)
    × (ClosesBy {A = Bool} c c (Err errors.NoMemory) → ⊥)
